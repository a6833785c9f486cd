-- Laws of pages: text put behind text, and what was put from a room's start on is shown.
use Rattle.std.proofs.Common.{ℕ, ◌+◌, ◌≡◌, ◌≤◌, ◌∙◌, refl, subst, List, [], ◌++◌, length, length-append, zero-add, le-ltb, arith}
use Rattle.std.proofs.Math.Seq.{length-sets}
use Rattle.text.proofs.Laid.{◌then◌, nothing, all_of}
use Rattle.console.specs.declared.Page.{Page}
use Rattle.console.specs.Code.Page.{Puts}
use Rattle.console.specs.Code.Shown.{shown}

infixl 20 ◌and◌
-- Text put behind text is the two put as one.
pub ◌and◌ : {a b c : Page} {text more : List ℕ} {m n : ℕ} → Puts a text m b → Puts b more n c → Puts a (text ++ more) (m + n) c
◌and◌ {a} {text = text} {more = more} p q =
    let whole = length-append text more in
    record {
      short = omega (arith, whole, p.short, q.short);
      wrote = λ fits.
          let first = p.wrote (omega (arith, fits, whole)) in
          first then q.wrote (rw (first.stored, first.behind) (omega (arith, fits, whole, length-sets a.room.now a.at text)));
      same = q.same ∙ p.same;
    }

-- The same under another name of the text, and of the most that it has.
pub renamed : {a b : Page} {text other : List ℕ} {m n : ℕ} → text ≡ other → m ≤ n → Puts a text m b → Puts a other n b
renamed {a} {b} {m = m} {n = n} e more p =
    let q = subst (λ (t : List ℕ). Puts a t m b) e p in
    record { short = omega (arith, q.short, more); wrote = q.wrote; same = q.same }

pub nothing_put : {a : Page} → Puts a [] 0 a
nothing_put = record { short = omega arith; wrote = λ fits. nothing; same = refl }

-- Of a room of 512 bytes or more, what was put from its start on is shown.
pub shown_put : {a b : Page} {text left : List ℕ} {most : ℕ} → Puts a text most b → a.at ≡ 0 → b.room.now ≡ left → 512 ≤ length a.room.now → most ≤ 512
    → shown text a.room.now ≡ record { length = b.at; room = left }
unfolding shown
shown_put {a} {text = text} p start all wide short =
    let w = rw start at (p.wrote (omega (arith, start, wide, short, p.short))) in
    rw (le-ltb _ _ wide, ← all, all_of w (omega (arith, wide, short, p.short)), w.behind, zero-add (length text))
