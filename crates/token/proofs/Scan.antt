-- Where the next token begins: spaces before it, or a byte that is none.
use Prim.Native.Nat.{ℕ, suc, ◌+◌, ◌-◌, ◌≤◌, ◌<◌}
use Prim.Native.Char.{code}
use mathlib.Core.Path.{◌≡◌, refl, sym, ap, ◌∙◌}
use mathlib.Core.Bool.{Bool, true, false}
use mathlib.Core.List.{List, ◌∷◌}
use native.Mathlib.Omega.{arith}
use borrow.Author.Tests.{eqb-true, eqb-false, ltb-true, ltb-false, ne_eqb}
use lib.Dec.{ltb, eqb}
use lib.ListN.{length, get_or, take, drop, length-drop}
use lib.Seq.{take_all}
use Rattle.std.specs.Prelude.{Option, None}
use Rattle.std.specs.List.{slice_range}
use Rattle.text.specs.Text.{before, line_at}
use Rattle.text.proofs.Lines.{text_ends, line_ends, line_goes_on, line_part, line_within}
use Rattle.token.specs.Tokens.{Token, ended, tokens_after, tokens, started_by}
use Rattle.token.specs.Code.Next.{start_at, told, first, spaces, scanned, token_len}
use Rattle.token.specs.declared.Token.{Token as Packed}
use Rattle.token.proofs.Split.{tokens_first, Split, split}

-- What is scanned where the line's tokens are known.
found : (text : List ℕ) (at k behind : ℕ) (t : Token) → first (tokens (line_at text at)) ≡ t → spaces (line_at text at) ≡ k
    → behind ≡ at + k + length t → record { token = told t; behind = behind } ≡ scanned text at
unfolding scanned
found text at k behind t f s b = rw (f, s, b)

-- A space before a token, a byte that is none, and the end of the line.
module _ (text : List ℕ) (at : ℕ) where
  spaced : at < length text → get_or text at 0 ≡ code " " → line_at text at ≡ code " " ∷ line_at text (at + 1)
  spaced h e = line_goes_on text at h (λ z. omega arith) ∙ ap (λ (c : ℕ). c ∷ line_at text (at + 1)) e

  pub one_space : at < length text → get_or text at 0 ≡ code " " → scanned text (at + 1) ≡ scanned text at
  unfolding scanned started_by spaces
  one_space h e =
      let s : List ℕ = line_at text (at + 1) in
      let t : Token = first (tokens s) in
      found text at (suc (spaces s)) (at + 1 + spaces s + length t) t (ap first (ap tokens (spaced h e) ∙ tokens_first (code " ") s)) (ap spaces (spaced h e)) (omega arith)

  pub space_passed : at < length text → get_or text at 0 ≡ code " " → start_at text (at + 1) ≡ start_at text at
  unfolding spaces
  space_passed h e =
      let n : spaces (line_at text at) ≡ suc (spaces (line_at text (at + 1))) = ap spaces (spaced h e) in
      omega (arith, n)

  pub starts_here : (at < length text → get_or text at 0 ≡ code " " → ⊥) → start_at text at ≡ at
  unfolding spaces
  starts_here n = go (ltb at (length text)) (eqb (get_or text at 0) 10) refl refl
    where
      none : spaces (line_at text at) ≡ 0 → start_at text at ≡ at
      none z = omega (arith, z)

      go : (b e : Bool) → ltb at (length text) ≡ b → eqb (get_or text at 0) 10 ≡ e → start_at text at ≡ at
      go false e p q = none (ap spaces (text_ends text at (ltb-false at (length text) p)))
      go true true p q = none (ap spaces (line_ends text at (ltb-true at (length text) p) (eqb-true (get_or text at 0) 10 q)))
      go true false p q =
          let h : at < length text = ltb-true at (length text) p in
          none (ap spaces (line_goes_on text at h (eqb-false (get_or text at 0) 10 q)) ∙ rw (ne_eqb (get_or text at 0) (code " ") (n h)))

  pub nothing_here : length text ≤ at → record { token = None; behind = at } ≡ scanned text at
  unfolding first spaces tokens_after ended scanned told
  nothing_here h = rw (text_ends text at h) (ap (λ (n : ℕ). record { token = None; behind = n }) (omega arith))

-- A token that stands first is spelled by as many of the bytes as it is long.
spelled : (rest : List ℕ) → spaces (before 10 rest) ≡ 0 → take (token_len rest) rest ≡ first (tokens (before 10 rest))
spelled rest z =
    let s : Split (before 10 rest) (first (tokens (before 10 rest))) (spaces (before 10 rest)) = split (before 10 rest) in
    sym (line_part (token_len rest) 0 rest (omega (arith, s.within))) ∙ ap (λ (k : ℕ). take (token_len rest) (drop k (before 10 rest))) (sym z) ∙ sym s.bytes

pub len_within : (rest : List ℕ) → token_len rest ≤ length rest
len_within rest = omega (arith, (split (before 10 rest)).within, line_within rest)

pub scanned_here : (text rest : List ℕ) (at n : ℕ) (token : Option Packed) → start_at text at ≡ at → rest ≡ slice_range text at (length text) → n ≡ token_len rest
    → token ≡ told (take (token_len rest) rest) → record { token = token; behind = at + n } ≡ scanned text at
unfolding scanned
scanned_here text rest at n token z r e t =
    let k : spaces (line_at text at) ≡ 0 = omega arith in
    let d : rest ≡ drop at text = r ∙ take_all (length text - at) (drop at text) (rw length-drop (omega arith)) in
    let w : take (token_len rest) rest ≡ first (tokens (line_at text at)) =
    spelled rest (ap (λ (u : List ℕ). spaces (before 10 u)) d ∙ k) ∙ ap (λ (u : List ℕ). first (tokens (before 10 u))) d in
    let long : n ≡ length (first (tokens (line_at text at))) = e ∙ ap token_len d in
    rw (t, w) (ap (λ (m : ℕ). record { token = told (first (tokens (line_at text at))); behind = m }) (omega arith))
