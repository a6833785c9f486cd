-- How long a token is that begins with a byte: a run of letters or of digits as long as the run, by one argument over a class of bytes; a sign
-- one byte, or two that are one token.
use Prim.Native.Nat.{ℕ, ◌+◌, ◌≤◌, ◌<◌}
use Prim.Native.Char.{code}
use mathlib.Core.Path.{◌≡◌, refl, sym, ap, ap₂, subst, ◌∙◌}
use mathlib.Core.Bool.{Bool, true, false, cond, ◌&&◌, ◌||◌, and-true, and-false, and_assoc, or-false, true≢false}
use mathlib.Core.List.{List, [], ◌∷◌, ◌++◌}
use native.Mathlib.Omega.{arith}
use borrow.Author.Tests.{leb-true, ne_eqb, eq-eqb, lt-leb, eqb-true, eqb-false}
use native.Mathlib.Numerals.{add-one}
use lib.Dec.{leb, eqb}
use lib.ListN.{length, get_or, take, drop, length-append, drop_of_length-le}
use lib.Seq.{drop-cons, take-suc}
use Rattle.std.specs.Prelude.{suc, Some, None}
use Rattle.std.specs.List.{prefix_len, starts_with, slice_get}
use Rattle.word.proofs.Tests.{both}
use Rattle.text.specs.Text.{bytes, same, before}
use Rattle.text.specs.Decimal.{digit}
use Rattle.token.specs.Tokens.{letter, every, one_token, under, ended, going, tokens_after, started_by}
use Rattle.token.specs.Code.Next.{grown, packed_after, packed, told, first, token_len}
use Rattle.token.specs.declared.Token.{Token as Packed}
use Rattle.token.proofs.Split.{tokens_first}

swapped : (a b : ℕ) → eqb a b ≡ eqb b a
swapped a b = go (eqb b a) refl
  where
    go : (t : Bool) → eqb b a ≡ t → eqb a b ≡ t
    go true e = eq-eqb a b (sym (eqb-true b a e))
    go false e = ne_eqb a b (λ z. eqb-false b a e (sym z))

-- The token that the byte c begins, before the bytes s.
begun : (c : ℕ) (s : List ℕ) → (c ≡ 10 → ⊥) → (c ≡ code " " → ⊥) → token_len (c ∷ s) ≡ length (first (tokens_after (c ∷ []) (before 10 s)))
unfolding before started_by
begun c s n b = rw (ne_eqb c 10 n, tokens_first c (before 10 s), ne_eqb c (code " ") b) refl

pub every_more : (p : ℕ → Bool) (t : List ℕ) (c : ℕ) → every p (t ++ c ∷ []) ≡ (every p t && p c)
unfolding every
every_more p [] c = and-true (p c)
every_more p (x ∷ t) c = rw (every_more p t c) (sym (and_assoc (p x) (every p t) (p c)))

-- A class of bytes whose runs are tokens: a token that begins in it is a run of it.
pub record Class (p : ℕ → Bool) : Type 0 where
  pub runs : (x : ℕ) (t : List ℕ) → p x ≡ true → one_token (x ∷ t) ≡ every p (x ∷ t)
  pub no_space : p (code " ") ≡ false
  pub no_end : p 10 ≡ false

pub letters : Class letter
unfolding one_token every same
letters = record { runs = runs; no_space = refl; no_end = refl }
  where
    runs : (x : ℕ) (t : List ℕ) → letter x ≡ true → one_token (x ∷ t) ≡ every letter (x ∷ t)
    runs x t e =
        let h : 97 ≤ x = leb-true 97 x (both (leb 97 x) (leb x 122) e).0 in
        simp (lt-leb x 57 (omega arith), ne_eqb x 58 (λ z. omega arith), ne_eqb x 60 (λ z. omega arith), ne_eqb x 62 (λ z. omega arith), and-false, or-false)

pub digits : Class digit
unfolding one_token every same
digits = record { runs = runs; no_space = refl; no_end = refl }
  where
    runs : (x : ℕ) (t : List ℕ) → digit x ≡ true → one_token (x ∷ t) ≡ every digit (x ∷ t)
    runs x t e =
        let h : x ≤ 57 = leb-true x 57 (both (leb 48 x) (leb x 57) e).1 in
        simp (lt-leb 97 x (omega arith), ne_eqb x 58 (λ z. omega arith), ne_eqb x 60 (λ z. omega arith), ne_eqb x 62 (λ z. omega arith), or-false)

module _ (p : ℕ → Bool) (of-class : Class p) where
  -- The run that is under way goes on as long as the class has the bytes.
  goes_on : (x : ℕ) (t s : List ℕ) → every p (x ∷ t) ≡ true
      → length (first (tokens_after (x ∷ t) (before 10 s))) ≡ length (x ∷ t) + prefix_len p s
  unfolding before first tokens_after ended going under every
  goes_on x t [] e = omega arith
  goes_on x t (c ∷ s) e = go (p c) (eqb c 10) refl refl (goes_on x (t ++ c ∷ []) s)
    where
      more : one_token (x ∷ t ++ c ∷ []) ≡ p c
      more = of-class.runs x (t ++ c ∷ []) (both (p x) (every p t) e).0 ∙ every_more p (x ∷ t) c ∙ rw e

      go : (b n : Bool) → p c ≡ b → eqb c 10 ≡ n
          → (every p (x ∷ t ++ c ∷ []) ≡ true → length (first (tokens_after (x ∷ t ++ c ∷ []) (before 10 s))) ≡ length (x ∷ t ++ c ∷ []) + prefix_len p s)
          → length (first (tokens_after (x ∷ t) (cond n [] (c ∷ before 10 s)))) ≡ length (x ∷ t) + cond b (1 + prefix_len p s) 0
      go true true q r f = absurd (true≢false (sym q ∙ ap p (eqb-true c 10 r) ∙ of-class.no_end))
      go true false q r f =
          rw (more, q) (f (every_more p (x ∷ t) c ∙ rw (e, q)) ∙ omega (arith, length-append (x ∷ t) (c ∷ [])))
      go false true q r f = omega arith
      go false false q r f = rw (more, q) (omega arith)

  pub run_len : (c : ℕ) (s : List ℕ) → p c ≡ true → prefix_len p (c ∷ s) ≡ token_len (c ∷ s)
  unfolding every
  run_len c s e =
      rw e (sym (goes_on c [] s (rw e)))
      ∙ sym (begun c s (λ z. true≢false (sym e ∙ ap p z ∙ of-class.no_end)) (λ z. true≢false (sym e ∙ ap p z ∙ of-class.no_space)))

-- A byte that begins no run: a token by itself, or with the next byte.
module _ (c : ℕ) (letters : letter c ≡ false) (digits : digit c ≡ false) where
  no_third : (d e : ℕ) → one_token (c ∷ d ∷ e ∷ []) ≡ false
  unfolding one_token every same
  no_third d e = rw (letters, digits) (simp and-false)

  in_line : (d : ℕ) → one_token (c ∷ d ∷ []) ≡ true → d ≡ 10 → ⊥
  unfolding one_token every same
  in_line d o z = true≢false (sym o ∙ rw (z, letters, digits) (simp and-false))

  one_byte : (s : List ℕ) → ((d : ℕ) (r : List ℕ) → s ≡ d ∷ r → one_token (c ∷ d ∷ []) ≡ false) → length (first (tokens_after (c ∷ []) (before 10 s))) ≡ 1
  unfolding before first tokens_after ended going
  one_byte [] f = refl
  one_byte (d ∷ r) f = go (eqb d 10)
    where
      go : (n : Bool) → length (first (tokens_after (c ∷ []) (cond n [] (d ∷ before 10 r)))) ≡ 1
      go true = refl
      go false = rw (f d r refl) refl

  behind_two : (d : ℕ) (s : List ℕ) → length (first (tokens_after (c ∷ d ∷ []) (before 10 s))) ≡ 2
  unfolding before first tokens_after ended going
  behind_two d [] = refl
  behind_two d (e ∷ r) = go (eqb e 10)
    where
      go : (n : Bool) → length (first (tokens_after (c ∷ d ∷ []) (cond n [] (e ∷ before 10 r)))) ≡ 2
      go true = refl
      go false = rw (no_third d e) refl

  two_bytes : (d : ℕ) (s : List ℕ) → one_token (c ∷ d ∷ []) ≡ true → length (first (tokens_after (c ∷ []) (before 10 (d ∷ s)))) ≡ 2
  unfolding before tokens_after going under
  two_bytes d s o = rw (ne_eqb d 10 (in_line d o), o) (behind_two d s)

  -- Whether the sign has a second byte.
  pub sign_len : (s : List ℕ) → (c ≡ 10 → ⊥) → (c ≡ code " " → ⊥)
      → ◌≡◌ {A = ℕ} (cond (starts_with eqb (c ∷ s) (bytes ":=") || starts_with eqb (c ∷ s) (bytes "<<") || starts_with eqb (c ∷ s) (bytes ">>")) 2 1) (token_len (c ∷ s))
  unfolding one_token every same
  sign_len [] n b = none ∙ sym (one_byte [] (λ d r z. absurd (nil z))) ∙ sym (begun c [] n b)
    where
      nil : {d : ℕ} {r : List ℕ} → [] ≡ d ∷ r → ⊥
      nil z = omega (arith, ap length z)

      none : ◌≡◌ {A = ℕ} (cond (starts_with eqb (c ∷ []) (bytes ":=") || starts_with eqb (c ∷ []) (bytes "<<") || starts_with eqb (c ∷ []) (bytes ">>")) 2 1) 1
      none = simp and-false
  sign_len (d ∷ s) n b = ap (λ (t : Bool). cond {A = ℕ} t 2 1) (sym pair_token) ∙ go (one_token (c ∷ d ∷ [])) refl ∙ sym (begun c (d ∷ s) n b)
    where
      pair_token : one_token (c ∷ d ∷ []) ≡ (starts_with eqb (c ∷ d ∷ s) (bytes ":=") || starts_with eqb (c ∷ d ∷ s) (bytes "<<") || starts_with eqb (c ∷ d ∷ s) (bytes ">>"))
      pair_token = rw (letters, digits, swapped 58 c, swapped 60 c, swapped 62 c, swapped 61 d, swapped 60 d, swapped 62 d) refl

      go : (o : Bool) → one_token (c ∷ d ∷ []) ≡ o → ◌≡◌ {A = ℕ} (cond o 2 1) (length (first (tokens_after (c ∷ []) (before 10 (d ∷ s)))))
      go true e = sym (two_bytes d s e)
      go false e = sym (one_byte (d ∷ s) (λ x r z. ap (λ (y : ℕ). one_token (c ∷ y ∷ [])) (sym (ap (λ (u : List ℕ). get_or u 0 0) z)) ∙ e))

-- A run byte by byte: one byte more of it, a byte that ends it, and the text's end.
pub packed_more : (n : ℕ) (t : List ℕ) (c : ℕ) → packed_after n (t ++ c ∷ []) ≡ grown (packed_after n t) c
packed_more n [] c = refl
packed_more n (x ∷ t) c = packed_more (grown n x) t c

pub record SoFar (kind : ℕ → Bool) (rest : List ℕ) (n token : ℕ) : Type 0 where
  pub long : prefix_len kind rest ≡ n + prefix_len kind (drop n rest)
  pub read : token ≡ packed (take n rest)

module _ (kind : ℕ → Bool) (rest : List ℕ) (n token : ℕ) (so_far : SoFar kind rest n token) where
  pub run_more : n < length rest → kind (get_or rest n 0) ≡ true → SoFar kind rest (n + 1) (grown token (get_or rest n 0))
  run_more h e =
      let d : prefix_len kind (drop n rest) ≡ 1 + prefix_len kind (drop (suc n) rest) = rw (drop-cons rest n 0 h, e) refl in
      rw add-one
      (record {
        long = so_far.long ∙ omega (arith, d);
        read = rw (so_far.read, take-suc rest n 0 h) (sym (packed_more 1 (take n rest) (get_or rest n 0)));
      })

  pub run_stops : n < length rest → kind (get_or rest n 0) ≡ false → (n ≡ prefix_len kind rest) × (token ≡ packed (take (prefix_len kind rest) rest))
  run_stops h e =
      let d : prefix_len kind (drop n rest) ≡ 0 = rw (drop-cons rest n 0 h, e) refl in
      let m : prefix_len kind rest ≡ n = omega (arith, so_far.long, d) in
      rw m (refl, so_far.read)

  pub run_over : n ≡ length rest → (length rest ≡ prefix_len kind rest) × (token ≡ packed (take (prefix_len kind rest) rest))
  run_over h =
      let all : length rest ≤ n = omega arith in
      let d : prefix_len kind (drop n rest) ≡ 0 = rw (drop_of_length-le rest all) refl in
      let m : prefix_len kind rest ≡ n = omega (arith, so_far.long, d) in
      rw m (sym h, so_far.read)

-- What stands first in a text.
begins : (rest : List ℕ) (c : ℕ) → Some c ≡ slice_get rest 0 → (s : List ℕ) × (rest ≡ c ∷ s)
begins [] c e = let o : ◌≡◌ {A = ℕ} 0 1 = cc in absurd (omega arith)
begins (x ∷ s) c e = let v : x ≡ c = cc in (s, ap (λ (y : ℕ). y ∷ s) v)

some_told : (t : List ℕ) (token : Packed) → (length t ≡ 0 → ⊥) → token.0 ≡ packed t → Some token ≡ told t
unfolding told
some_told [] token some e = absurd (some refl)
some_told (x ∷ t) token some e = ap (λ (n : ℕ). Some (record { 0 = n })) e

-- The length by what stands first: nothing, the byte 10, a byte of a class, a sign.
pub nothing_long : (rest : List ℕ) → None ≡ slice_get rest 0 → 0 ≡ token_len rest
unfolding first tokens_after ended before
nothing_long [] e = refl
nothing_long (x ∷ s) e = let o : ◌≡◌ {A = ℕ} 0 1 = cc in absurd (omega arith)

end : (s : List ℕ) → 0 ≡ token_len (10 ∷ s)
unfolding first tokens_after ended before
end s = refl

module _ (rest : List ℕ) (c : ℕ) (e : Some c ≡ slice_get rest 0) where
  b : (s : List ℕ) × (rest ≡ c ∷ s)
  b = begins rest c e

  pub end_long : c ≡ 10 → 0 ≡ token_len rest
  end_long z = end b.0 ∙ ap (λ (x : ℕ). token_len (x ∷ b.0)) (sym z) ∙ ap token_len (sym b.1)

  pub run_long : (p : ℕ → Bool) → Class p → p c ≡ true → prefix_len p rest ≡ token_len rest
  run_long p of-class h = ap (prefix_len p) b.1 ∙ run_len p of-class c b.0 h ∙ ap token_len (sym b.1)

  -- And the token is the run's.
  pub run_told : (p : ℕ → Bool) → Class p → p c ≡ true → (n : ℕ) (token : Packed) → (n ≡ prefix_len p rest) × (token.0 ≡ packed (take (prefix_len p rest) rest))
      → (n ≡ token_len rest) × (Some token ≡ told (take (token_len rest) rest))
  run_told p of-class h n token r =
      let long : prefix_len p rest ≡ token_len rest = run_long p of-class h in
      let one : prefix_len p rest ≡ 1 + prefix_len p b.0 = ap (prefix_len p) b.1 ∙ rw h refl in
      let more : prefix_len p rest ≡ suc (prefix_len p b.0) = omega (arith, one) in
      let bytes : take (prefix_len p rest) rest ≡ c ∷ take (prefix_len p b.0) b.0 = ap₂ (λ (k : ℕ) (s : List ℕ). take k s) more b.1 in
      (r.0 ∙ long, some_told _ token (λ z. omega (arith, z, ap length bytes)) r.1 ∙ ap (λ (k : ℕ). told (take k rest)) long)

  pub sign_long : letter c ≡ false → digit c ≡ false → (c ≡ 10 → ⊥) → (0 < length rest → get_or rest 0 0 ≡ code " " → ⊥) → (t : Bool)
      → t ≡ (starts_with eqb rest (bytes ":=") || starts_with eqb rest (bytes "<<") || starts_with eqb rest (bytes ">>")) → ◌≡◌ {A = ℕ} (cond t 2 1) (token_len rest)
  sign_long l d n f t q =
      let g : get_or rest 0 0 ≡ c = ap (λ (u : List ℕ). get_or u 0 0) b.1 in
      let v = sign_len c l d b.0 n (λ z. f (omega (arith, ap length b.1)) (g ∙ z)) in
      ap (λ (x : Bool). cond {A = ℕ} x 2 1) q ∙ subst (λ (u : List ℕ). ◌≡◌ {A = ℕ} (cond (starts_with eqb u (bytes ":=") || starts_with eqb u (bytes "<<") || starts_with eqb u (bytes ">>")) 2 1) (token_len u)) (sym b.1) v
