-- A line as its first token and what follows it: behind the spaces and the token's bytes stand the other tokens.
use Prim.Native.Nat.{ℕ, suc, ◌+◌, ◌≤◌}
use Prim.Native.Char.{code}
use mathlib.Core.Path.{◌≡◌, refl, sym, ap, ◌∙◌}
use mathlib.Core.Bool.{Bool, true, false, cond, true≢false}
use mathlib.Core.List.{List, [], ◌∷◌, ◌++◌, append-nil, append_assoc}
use native.Mathlib.Nat.{suc-add}
use native.Mathlib.Omega.{arith}
use borrow.Author.Tests.{eqb-true}
use lib.Dec.{eqb}
use lib.ListN.{length, take, drop, length-append}
use Rattle.text.specs.Text.{same}
use Rattle.token.specs.Tokens.{Token, every, one_token, under, ended, going, tokens_after, tokens, started_by}
use Rattle.token.specs.Code.Next.{first, spaces}

-- A space is no token.
blank : true ≡ one_token (code " " ∷ []) → ⊥
unfolding one_token every same
blank e = true≢false e

-- A byte that begins a token with none under way.
under_none : (c : ℕ) → under [] c ≡ started_by c
unfolding under started_by
under_none c = go (one_token (c ∷ [])) (eqb c (code " ")) refl refl
  where
    go : (b s : Bool) → one_token (c ∷ []) ≡ b → eqb c (code " ") ≡ s → cond b (c ∷ []) (cond s [] (c ∷ [])) ≡ cond s [] (c ∷ [])
    go false s p q = refl
    go true false p q = refl
    go true true p q = absurd (blank (sym p ∙ ap (λ (x : ℕ). one_token (x ∷ [])) (eqb-true c (code " ") q)))

pub tokens_first : (c : ℕ) (s : List ℕ) → tokens (c ∷ s) ≡ tokens_after (started_by c) s
unfolding tokens_after going ended
tokens_first c s = go (one_token (c ∷ [])) ∙ ap (λ (t : List ℕ). tokens_after t s) (under_none c)
  where
    go : (b : Bool) → going b [] (tokens_after (under [] c) s) ≡ tokens_after (under [] c) s
    go true = refl
    go false = refl

-- A token that is under way takes `more` bytes of s, and the other tokens are those of the bytes behind.
record Goes (x : ℕ) (t s : List ℕ) : Type 0 where
  rest : List ℕ
  more : ℕ
  all : tokens_after (x ∷ t) s ≡ (x ∷ rest) ∷ tokens (drop more s)
  long : length rest ≡ length t + more
  bytes : rest ≡ t ++ take more s
  within : more ≤ length s

goes : (x : ℕ) (t s : List ℕ) → Goes x t s
unfolding tokens_after going ended under
goes x t [] = record { rest = t; more = 0; all = refl; long = omega arith; bytes = sym (append-nil t); within = omega arith }
goes x t (c ∷ s) = go (one_token (x ∷ t ++ c ∷ [])) refl (goes x (t ++ c ∷ []) s)
  where
    go : (b : Bool) → one_token (x ∷ t ++ c ∷ []) ≡ b → Goes x (t ++ c ∷ []) s → Goes x t (c ∷ s)
    go true e g =
        record {
          rest = g.rest;
          more = suc g.more;
          all = rw e g.all;
          long = omega (arith, g.long, length-append t (c ∷ []));
          bytes = g.bytes ∙ append_assoc t (c ∷ []) (take g.more s);
          within = omega (arith, g.within);
        }
    go false e g =
        record { rest = t; more = 0; all = rw e (ap (λ (ts : List Token). (x ∷ t) ∷ ts) (sym (tokens_first c s))); long = omega arith; bytes = sym (append-nil t); within = omega arith }

-- A line s whose first token is t, behind k spaces.
pub record Split (s : List ℕ) (t : Token) (k : ℕ) : Type 0 where
  pub all : tokens s ≡ ended t (tokens (drop (k + length t) s))
  pub within : k + length t ≤ length s
  pub bytes : t ≡ take (length t) (drop k s)
  pub none : t ≡ [] → k ≡ length s

pub split : (s : List ℕ) → Split s (first (tokens s)) (spaces s)
unfolding first spaces ended tokens_after started_by
split [] = record { all = refl; within = omega arith; bytes = refl; none = λ e. refl }
split (c ∷ s) = rw (tokens_first c s) (go (eqb c (code " ")) refl (split s) (goes c [] s))
  where
    go : (b : Bool) → eqb c (code " ") ≡ b → Split s (first (tokens s)) (spaces s) → Goes c [] s
        → Split (c ∷ s) (first (tokens_after (cond b [] (c ∷ [])) s)) (cond b (suc (spaces s)) 0)
    go true e i g =
        record {
          all = tokens_first c s ∙ rw (e, suc-add) i.all;
          within = omega (arith, i.within);
          bytes = i.bytes;
          none = λ z. ap suc (i.none z);
        }
    go false e i g =
        let p : suc g.more ≡ 0 + length (c ∷ g.rest) = omega (arith, g.long) in
        rw g.all
        (record {
          all = tokens_first c s ∙ rw e g.all ∙ ap (λ (n : ℕ). (c ∷ g.rest) ∷ tokens (drop n (c ∷ s))) p;
          within = omega (arith, g.long, g.within);
          bytes = let q : g.more ≡ length g.rest = omega (arith, g.long) in ap (λ (u : List ℕ). c ∷ u) (g.bytes ∙ ap (λ (n : ℕ). take n s) q);
          none = λ z. absurd (omega (arith, ap length z));
        })
