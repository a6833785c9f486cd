-- What the equation of `next_token` says to one who takes a line's tokens in turn: the next one, with those behind it, are the line's, and the
-- line ends where it did.
use Prim.Native.Nat.{ℕ, ◌+◌, ◌-◌, ◌≤◌, ◌<◌}
use mathlib.Core.Path.{◌≡◌, refl, sym, ap, subst, ◌∙◌}
use mathlib.Core.List.{List, [], ◌∷◌, map}
use native.Mathlib.Omega.{arith}
use Rattle.std.specs.Prelude.{Option, Some, None}
use lib.ListN.{length, take, drop, drop_of_length-le, length-drop}
use lib.Seq.{drop-drop}
use Rattle.text.specs.Text.{before, line_at, end_at, span}
use Rattle.text.proofs.Lines.{line_behind, line_within, line_part}
use Rattle.token.specs.Tokens.{Token, ended, tokens_after, tokens}
use Rattle.token.specs.Code.Next.{start_at, packed, told, first, spaces, scanned}
use Rattle.token.specs.declared.Token.{Token as Packed}
use Rattle.token.specs.declared.Scanned.{Scanned}
use Rattle.token.proofs.Split.{Split, split}
use Rattle.token.specs.Code.Numbers.{codes_at}

-- The numbers of a line's tokens: that of the next one and those behind it, if there is a next one.
abbrev pub taking : Option Packed → List ℕ → List ℕ
taking None behind = []
taking (Some token) behind = token.0 ∷ behind

-- The next token of a line and what is behind it; none at the line's end.
pub record NextToken (text : List ℕ) (at : ℕ) (r : Scanned) : Type 0 where
  pub codes : codes_at text at ≡ taking r.token (codes_at text r.behind)
  pub line_end : end_at text r.behind ≡ end_at text at
  pub none : r.token ≡ None → r.behind ≡ end_at text at
  pub some : (token : Packed) → r.token ≡ Some token → (at < r.behind) × (r.behind ≤ length text)

-- The law for a line whose first token is t, behind k spaces.
module _ (text : List ℕ) (at k : ℕ) (t : Token) (s : Split (line_at text at) t k) where
  line_behind_token : line_at text (at + k + length t) ≡ drop (k + length t) (line_at text at)
  line_behind_token =
      let p : at + k + length t ≡ at + (k + length t) = omega arith in
      ap (λ (n : ℕ). line_at text n) p ∙ ap (before 10) (sym (drop-drop (k + length t) at text)) ∙ line_behind (k + length t) (drop at text) s.within

  end_stays : end_at text (at + k + length t) ≡ end_at text at
  end_stays = omega (arith, s.within, ap length line_behind_token, length-drop (k + length t) (line_at text at))

  inside : 1 ≤ length t → at + k + length t ≤ length text
  inside h = omega (arith, s.within, line_within (drop at text), length-drop at text)

-- The same law with the token as its bytes, which stand in the text from its start on; no bytes where there is none.
pub record NextBytes (text : List ℕ) (at : ℕ) (r : Scanned) : Type 0 where
  pub tokens_at : tokens (line_at text at) ≡ ended (span text (start_at text at) r.behind) (tokens (line_at text r.behind))
  pub none : span text (start_at text at) r.behind ≡ [] → tokens (line_at text at) ≡ []
  pub number : r.token ≡ told (span text (start_at text at) r.behind)
  pub in_order : (start_at text at ≤ r.behind) × (at ≤ start_at text at)

pub next_bytes : (text : List ℕ) (at : ℕ) (r : Scanned) → r ≡ scanned text at → NextBytes text at r
unfolding scanned ended tokens_after
next_bytes text at r e = subst (NextBytes text at) (sym e) (go (first (tokens (line_at text at))) (split (line_at text at)))
  where
    k : ℕ
    k = spaces (line_at text at)

    empty : (t : Token) → Split (line_at text at) t k → t ≡ [] → tokens (line_at text at) ≡ []
    empty [] s z =
        let h : length (line_at text at) ≤ k + 0 = omega (arith, s.none refl) in
        s.all ∙ ap tokens (drop_of_length-le (line_at text at) h)
    empty (x ∷ u) s z = absurd (omega (arith, ap length z))

    go : (t : Token) → Split (line_at text at) t k → NextBytes text at (record { token = told t; behind = at + k + length t })
    go t s =
        let p : at + k + length t - (at + k) ≡ length t = omega arith in
        let b : t ≡ span text (at + k) (at + k + length t) =
        s.bytes ∙ line_part (length t) k (drop at text) s.within ∙ ap (take (length t)) (drop-drop k at text) ∙ ap (λ (n : ℕ). take n (drop (at + k) text)) (sym p) in
        record {
          tokens_at = s.all ∙ ap (λ (u : List ℕ). ended t (tokens u)) (sym (line_behind_token text at k t s)) ∙ ap (λ (u : Token). ended u (tokens (line_at text (at + k + length t)))) b;
          none = λ z. empty t s (b ∙ z);
          number = ap told b;
          in_order = (omega arith, omega arith);
        }

holds : (text : List ℕ) (at k : ℕ) (t : Token) → Split (line_at text at) t k → NextToken text at (record { token = told t; behind = at + k + length t })
unfolding ended tokens_after told
holds text at k [] s =
    let h : length (line_at text at) ≤ k + 0 = omega (arith, s.none refl) in
    record {
      codes = ap (map packed) (s.all ∙ ap tokens (drop_of_length-le (line_at text at) h));
      line_end = end_stays text at k [] s;
      none = λ e. omega (arith, s.none refl);
      some = λ token e. let o : ◌≡◌ {A = ℕ} 0 1 = cc in absurd (omega arith);
    }
holds text at k (x ∷ u) s =
    record {
      codes = ap (map packed) (s.all ∙ ap (λ (r : List ℕ). (x ∷ u) ∷ tokens r) (sym (line_behind_token text at k (x ∷ u) s)));
      line_end = end_stays text at k (x ∷ u) s;
      none = λ e. let o : ◌≡◌ {A = ℕ} 0 1 = cc in absurd (omega arith);
      some = λ token e. (omega arith, inside text at k (x ∷ u) s (omega arith));
    }

pub next : (text : List ℕ) (at : ℕ) (r : Scanned) → r ≡ scanned text at → NextToken text at r
unfolding scanned
next text at r e = subst (NextToken text at) (sym e) (holds text at (spaces (line_at text at)) (first (tokens (line_at text at))) (split (line_at text at)))
