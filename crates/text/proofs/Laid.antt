-- Laws of text laid into a room: texts laid one behind the other, text at a room's start, and that no second answer satisfies the promise.
use Prim.Native.Nat.{ℕ, suc, ◌+◌, ◌≤◌, ◌<◌}
use mathlib.Core.Path.{◌≡◌, refl, sym, ap, ap₂, subst, ◌∙◌}
use mathlib.Core.Bool.{true, false}
use mathlib.Core.List.{List, [], ◌∷◌, ◌++◌}
use native.Mathlib.Nat.{add-zero, add-suc, suc-add}
use native.Mathlib.Omega.{arith}
use borrow.Table.Steps.{cases}
use borrow.Author.Tests.{lt-ltb, le-ltb, ltb-false}
use lib.Dec.{ltb}
use lib.ListN.{length, take, drop, set, length-append}
use lib.Seq.{sets, sets-eq, take_at}
use Rattle.text.specs.Laid.{Laid, laid, Wrote}

infixl 20 ◌then◌
-- A text that fits is stored.
pub wrote : {room left : List ℕ} {at next : ℕ} {text : List ℕ} → at + length text ≤ length room
    → laid room at text ≡ record { room = left; next = next } → Wrote room at text left next
unfolding laid
wrote {room} {at = at} {text = text} fits e =
    let same = rw (le-ltb _ _ fits) at e in
    record {
      stored = sym (ap (λ (l : Laid). l.room) same) ∙ sym (sets-eq text room at fits);
      behind = sym (ap (λ (l : Laid). l.next) same);
    }

pub laid_stored : {room left : List ℕ} {at next : ℕ} {text : List ℕ} → at + length text ≤ length room
    → Wrote room at text left next → laid room at text ≡ record { room = left; next = next }
unfolding laid
laid_stored {room} {at = at} {text = text} fits w =
    rw (le-ltb _ _ fits) (ap₂ {C = Laid} (λ (l : List ℕ) (n : ℕ). record { room = l; next = n }) (sym (w.stored ∙ sets-eq text room at fits)) (sym w.behind))

-- One that does not fit is not.
pub not_laid : (room : List ℕ) (at : ℕ) (text : List ℕ) → length room < at + length text → laid room at text ≡ record { room = room; next = at }
unfolding laid
not_laid room at text past = rw (lt-ltb _ _ past)

-- What is laid from within a room ends within it.
pub laid_within : (room : List ℕ) (at : ℕ) (text : List ℕ) {left : List ℕ} {next : ℕ} → at ≤ length room
    → laid room at text ≡ record { room = left; next = next } → next ≤ length room
unfolding laid
laid_within room at text inside e =
    let fits = ltb (length room) (at + length text) in
    cases fits (λ (past : fits ≡ true). omega (arith, ap (λ (l : Laid). l.next) (rw past at e)))
    (λ (whole : fits ≡ false). omega (arith, ltb-false (length room) (at + length text) whole, ap (λ (l : Laid). l.next) (rw whole at e)))

-- Text stored behind text is the two stored as one.
sets_append : (text more room : List ℕ) (at : ℕ) → sets room at (text ++ more) ≡ sets (sets room at text) (at + length text) more
sets_append [] more room at = ap (λ (k : ℕ). sets room k more) (sym (add-zero at))
sets_append (x ∷ text) more room at =
    sets_append text more (set room at x) (suc at)
    ∙ ap (λ (k : ℕ). sets (sets (set room at x) (suc at) text) k more) (suc-add at (length text) ∙ sym (add-suc at (length text)))

-- What is stored behind text could have been stored with it.
pub stored_on : {room left : List ℕ} {at next : ℕ} {text : List ℕ} → Wrote room at text left next → (more : List ℕ)
    → sets left next more ≡ sets room at (text ++ more)
stored_on {room} {at = at} {text = text} w more =
    ap₂ (λ (l : List ℕ) (k : ℕ). sets l k more) w.stored w.behind ∙ sym (sets_append text more room at)

pub ◌then◌ : {room middle left : List ℕ} {at next end : ℕ} {text more : List ℕ}
    → Wrote room at text middle next → Wrote middle next more left end → Wrote room at (text ++ more) left end
◌then◌ {text = text} {more = more} a b =
    record { stored = b.stored ∙ stored_on a more; behind = omega (arith, a.behind, b.behind, length-append text more) }

-- Text that was stored at a room's start stands there, and the room past it is as found.
pub all_of : {room left : List ℕ} {next : ℕ} {text : List ℕ} → Wrote room 0 text left next → length text ≤ length room
    → left ≡ text ++ drop (length text) room
all_of {room} {text = text} w h =
    let e : 0 + length text ≡ length text = omega arith in
    w.stored ∙ sets-eq text room 0 (omega arith) ∙ ap (λ (k : ℕ). text ++ drop k room) e

pub at_start : {room left : List ℕ} {next : ℕ} {text : List ℕ} → Wrote room 0 text left next → length text ≤ length room → take next left ≡ text
at_start {room} {text = text} w h =
    let e : length text ≡ 0 + length text = omega arith in
    rw (all_of w h, w.behind) (take_at text _ _ e)

-- The same under another name of the text.
pub same_text : {room left : List ℕ} {at next : ℕ} {text other : List ℕ} → text ≡ other → Wrote room at text left next → Wrote room at other left next
same_text {room} {left} {at} {next} e w = subst (λ (t : List ℕ). Wrote room at t left next) e w

pub nothing : {room : List ℕ} {at : ℕ} → Wrote room at [] room at
nothing {at = at} = record { stored = refl; behind = sym (add-zero at) }

-- What is still to be laid of a whole text: laid from where one stands, it gives what the whole gives.
pub record Still (start : List ℕ) (from : ℕ) (whole room : List ℕ) (at : ℕ) (rest : List ℕ) : Type 0 where
  pub stored : sets room at rest ≡ sets start from whole
  pub behind : at + length rest ≡ from + length whole

pub goes_on : {start room left : List ℕ} {from at next : ℕ} {whole text rest : List ℕ}
    → Still start from whole room at (text ++ rest) → Wrote room at text left next → Still start from whole left next rest
goes_on {text = text} {rest = rest} s w =
    record { stored = stored_on w rest ∙ s.stored; behind = omega (arith, w.behind, s.behind, length-append text rest) }

pub all_laid : {start room : List ℕ} {from at : ℕ} {whole : List ℕ} → Still start from whole room at [] → Wrote start from whole room at
all_laid s = record { stored = s.stored; behind = omega (arith, s.behind) }

-- No second answer: the promise fixes the room and where the text ends.
pub only : (room : List ℕ) (at : ℕ) (text left left' : List ℕ) (r r' : ℕ) → laid room at text ≡ record { room = left; next = r }
    → laid room at text ≡ record { room = left'; next = r' } → (r ≡ r') × (left ≡ left')
only room at text left left' r r' p q =
    let same = sym p ∙ q in
    (ap (λ (l : Laid). l.next) same, ap (λ (l : Laid). l.room) same)
