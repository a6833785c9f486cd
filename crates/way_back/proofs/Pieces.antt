-- Text made of parts, each behind a space and before a semicolon, is cut into those parts again.
use Prim.Native.Nat.{ℕ}
use Prim.Native.Char.{code}
use mathlib.Core.Path.{◌≡◌, refl, sym, ap, ap₂, ◌∙◌}
use mathlib.Core.Bool.{Bool, true, false, not, ◌&&◌, ◌||◌, and-true, and-false, false≢true}
use mathlib.Core.List.{List, [], ◌∷◌, ◌++◌, map}
use borrow.Author.Tests.{not-true}
use lib.Dec.{eqb}
use Rattle.token.specs.Tokens.{Token, letter, every, one_token, under, ended, going, tokens_after, tokens, started_by}
use Rattle.std.specs.Prelude.{Option}
use Rattle.part.specs.Grammar.{part}
use Rattle.microtext.specs.Line.{cut, divided, last_part, parts}
use Rattle.part.specs.declared.Part.{Part}
use Rattle.word.proofs.Tests.{both, All}
use Rattle.microtext.proofs.Whole.{divided_some}
use Rattle.text.specs.Text.{same, ◌is◌}
use Rattle.text.specs.Decimal.{digit}
use Rattle.token.proofs.Runs.{every_more}
use Rattle.way_back.proofs.Printed.{undivided}

-- A byte that goes on with no token: no letter, no digit, and none that ends `:=`, `<<` or `>>`.
abbrev pub apart : ℕ → Bool
apart c = not (letter c || digit c || eqb c (code "=") || eqb c (code "<") || eqb c (code ">"))

none_of : (a b c d e : Bool) → not (a || b || c || d || e) ≡ true → (a ≡ false) × (b ≡ false) × (c ≡ false) × (d ≡ false) × (e ≡ false)
none_of false false false false false h = (refl, refl, refl, refl, refl)
none_of false false false false true h = absurd (false≢true h)
none_of false false false true e h = absurd (false≢true h)
none_of false false true d e h = absurd (false≢true h)
none_of false true c d e h = absurd (false≢true h)
none_of true b c d e h = absurd (false≢true h)

-- Two bytes that are one token: the first is under way, the second comes.
same_none : (t : List ℕ) (c : ℕ) → same (t ++ c ∷ []) [] ≡ false
unfolding same
same_none [] c = refl
same_none (x ∷ t) c = refl

same_pair : (t : List ℕ) (c a b : ℕ) → same (t ++ c ∷ []) (a ∷ b ∷ []) ≡ (same t (a ∷ []) && eqb c b)
unfolding same
same_pair [] c a b = and-false (eqb c a)
same_pair (x ∷ []) c a b = rw (and-true (eqb c b), and-true (eqb x a))
same_pair (x ∷ y ∷ t) c a b = rw (same_none t c, and-false (eqb y b), and-false (eqb x a))

never_joins : (c : ℕ) → apart c ≡ true → (t : List ℕ) → one_token (t ++ c ∷ []) ≡ false
unfolding one_token
never_joins c a t =
    let n = none_of (letter c) (digit c) (eqb c (code "=")) (eqb c (code "<")) (eqb c (code ">")) a in
    rw (
      every_more letter t c,
      every_more digit t c,
      same_pair t c 58 61,
      same_pair t c 60 60,
      same_pair t c 62 62,
      n.0,
      n.1,
      n.2,
      n.3,
      n.4,
      and-false (every letter t),
      and-false (every digit t),
      and-false (same t (58 ∷ [])),
      and-false (same t (60 ∷ [])),
      and-false (same t (62 ∷ [])),
    )

ended_append : (t : List ℕ) (ts us : List Token) → ended t ts ++ us ≡ ended t (ts ++ us)
unfolding ended
ended_append [] ts us = refl
ended_append (c ∷ t) ts us = refl

going_append : (b : Bool) (t : List ℕ) (ts us : List Token) → going b t ts ++ us ≡ going b t (ts ++ us)
unfolding going
going_append true t ts us = refl
going_append false t ts us = ended_append t ts us

-- Before such a byte the tokens can be cut.
pub tokens_split : (p t : List ℕ) (c : ℕ) (q : List ℕ) → apart c ≡ true → tokens_after t (p ++ c ∷ q) ≡ tokens_after t p ++ tokens (c ∷ q)
unfolding tokens_after under going ended
tokens_split [] t c q a = rw (never_joins c a t, never_joins c a []) (sym (ended_append t [] (tokens_after (started_by c) q)))
tokens_split (x ∷ p) t c q a =
    ap (going (one_token (t ++ x ∷ [])) t) (tokens_split p (under t x) c q a)
    ∙ sym (going_append (one_token (t ++ x ∷ [])) t (tokens_after (under t x) p) (tokens (c ∷ q)))

-- Parts, each behind a space and before a semicolon.
unfoldable pub spaced : List (List ℕ) → List ℕ
spaced [] = []
spaced (p ∷ ps) = 32 ∷ (p ++ 59 ∷ spaced ps)

-- A sign before them is a token.
sign_first : (c : ℕ) → tokens (c ∷ []) ≡ (c ∷ []) ∷ [] → (ps : List (List ℕ)) → tokens (c ∷ spaced ps) ≡ (c ∷ []) ∷ tokens (spaced ps)
unfolding spaced tokens_after ended
sign_first c e [] = e
sign_first c e (p ∷ ps) = tokens_split (c ∷ []) [] 32 (p ++ 59 ∷ spaced ps) refl ∙ ap (λ (x : List Token). x ++ tokens (32 ∷ (p ++ 59 ∷ spaced ps))) e

signs : (tokens (58 ∷ []) ≡ (58 ∷ []) ∷ []) × (tokens (59 ∷ []) ≡ (59 ∷ []) ∷ [])
unfolding tokens_after going ended under started_by one_token every same
signs = (refl, refl)

pub colon_first : (ps : List (List ℕ)) → tokens (58 ∷ spaced ps) ≡ (58 ∷ []) ∷ tokens (spaced ps)
colon_first ps = sign_first 58 signs.0 ps

space_first : (p : List ℕ) → tokens (32 ∷ p) ≡ tokens p
unfolding tokens_after going ended under started_by one_token every same
space_first p = refl

-- The tokens of the parts, with their semicolons.
unfoldable spread : List (List ℕ) → List Token
spread [] = []
spread (p ∷ ps) = tokens p ++ (59 ∷ []) ∷ spread ps

tokens_spread : (ps : List (List ℕ)) → tokens (spaced ps) ≡ spread ps
unfolding spaced spread tokens_after ended
tokens_spread [] = refl
tokens_spread (p ∷ ps) =
    tokens_split (32 ∷ p) [] 59 (spaced ps) refl
    ∙ ap₂ (λ (x y : List Token). x ++ y) (space_first p) (sign_first 59 signs.1 ps ∙ ap (λ (x : List Token). (59 ∷ []) ∷ x) (tokens_spread ps))

-- Divided at the semicolons they are the parts again, with nothing behind the last.
semicolon : (ps : List (List Token)) → (p : List Token) × (qs : List (List Token)) × (ps ≡ p ∷ qs) → cut (59 ∷ []) ps ≡ [] ∷ ps
unfolding cut same
semicolon ps (p, qs, e) = rw e

other : (t : Token) (ts : List Token) (ps : List (List Token)) → t is ";" ≡ false → cut t (ts ∷ ps) ≡ (t ∷ ts) ∷ ps
unfolding cut
other t ts ps e = rw e

divided_first : (ts us : List Token) → undivided ts ≡ true → divided (ts ++ (59 ∷ []) ∷ us) ≡ ts ∷ divided us
unfolding divided undivided
divided_first [] us e = semicolon (divided us) (divided_some us)
divided_first (t ∷ ts) us e =
    let h = both (not (t is ";")) (undivided ts) e in
    ap (cut t) (divided_first ts us h.1) ∙ other t ts (divided us) (not-true (t is ";") h.0)

divided_spread : (ps : List (List ℕ)) → All (λ (p : List ℕ). undivided (tokens p) ≡ true) ps → divided (spread ps) ≡ map tokens ps ++ [] ∷ []
unfolding spread divided
divided_spread [] a = refl
divided_spread (p ∷ ps) a = divided_first (tokens p) (spread ps) a.0 ∙ ap (λ (x : List (List Token)). tokens p ∷ x) (divided_spread ps a.1)

parts_all : (ps : List (List Token)) → parts (ps ++ [] ∷ []) ≡ map part ps
unfolding parts last_part
parts_all [] = refl
parts_all (p ∷ []) = refl
parts_all (p ∷ q ∷ ps) = ap (λ (x : List (Option Part)). part p ∷ x) (parts_all (q ∷ ps))

pub parts_back : (ps : List (List ℕ)) → All (λ (p : List ℕ). undivided (tokens p) ≡ true) ps → parts (divided (tokens (spaced ps))) ≡ map part (map tokens ps)
parts_back ps a = ap (λ (x : List Token). parts (divided x)) (tokens_spread ps) ∙ ap parts (divided_spread ps a) ∙ parts_all (map tokens ps)
