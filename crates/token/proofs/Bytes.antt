-- The tokens of bytes are bytes.
use Prim.Native.Nat.{ℕ, zero, suc, ◌<◌}
use Prim.Native.Char.{code}
use mathlib.Core.Bool.{Bool, true, false, cond}
use mathlib.Core.List.{List, [], ◌∷◌, ◌++◌}
use lib.Dec.{eqb}
use lib.ListN.{get_or, drop}
use Rattle.word.proofs.Tests.{All}
use Rattle.text.specs.Text.{before, line_at}
use Rattle.token.specs.Tokens.{Token, one_token, under, ended, going, tokens_after, tokens, started_by}

-- All of them are bytes.
abbrev pub Bytes : List ℕ → Type 0
Bytes t = All (λ (c : ℕ). c < 256) t

abbrev pub AllBytes : List Token → Type 0
AllBytes ts = All Bytes ts

pub bytes_all : (s : List ℕ) → ((i : ℕ) → get_or s i 0 < 256) → Bytes s
bytes_all [] h = tt
bytes_all (c ∷ s) h = (h 0, bytes_all s (λ i. h (suc i)))

bytes_append : (u v : List ℕ) → Bytes u → Bytes v → Bytes (u ++ v)
bytes_append [] v a b = b
bytes_append (c ∷ u) v a b = (a.0, bytes_append u v a.1 b)

started_bytes : (c : ℕ) → c < 256 → Bytes (started_by c)
unfolding started_by
started_bytes c h = go (eqb c (code " "))
  where
    go : (b : Bool) → Bytes (cond b [] (c ∷ []))
    go true = tt
    go false = (h, tt)

under_bytes : (t : List ℕ) (c : ℕ) → Bytes t → c < 256 → Bytes (under t c)
unfolding under
under_bytes t c b h = go (one_token (t ++ c ∷ []))
  where
    go : (j : Bool) → Bytes (cond j (t ++ c ∷ []) (started_by c))
    go true = bytes_append t (c ∷ []) b (h, tt)
    go false = started_bytes c h

ended_bytes : (t : List ℕ) (ts : List Token) → Bytes t → AllBytes ts → AllBytes (ended t ts)
unfolding ended
ended_bytes [] ts b a = a
ended_bytes (c ∷ t) ts b a = (b, a)

tokens_bytes : (s t : List ℕ) → Bytes s → Bytes t → AllBytes (tokens_after t s)
unfolding tokens_after going
tokens_bytes [] t a b = ended_bytes t [] b tt
tokens_bytes (c ∷ s) t a b = go (one_token (t ++ c ∷ [])) (tokens_bytes s (under t c) a.1 (under_bytes t c b a.0))
  where
    go : (j : Bool) → AllBytes (tokens_after (under t c) s) → AllBytes (going j t (tokens_after (under t c) s))
    go true h = h
    go false h = ended_bytes t (tokens_after (under t c) s) b h

before_bytes : (b : ℕ) (s : List ℕ) → Bytes s → Bytes (before b s)
unfolding before
before_bytes b [] a = tt
before_bytes b (c ∷ s) a = go (eqb c b) (before_bytes b s a.1)
  where
    go : (t : Bool) → Bytes (before b s) → Bytes (cond t [] (c ∷ before b s))
    go true h = tt
    go false h = (a.0, h)

drop_bytes : (n : ℕ) (s : List ℕ) → Bytes s → Bytes (drop n s)
drop_bytes zero s a = a
drop_bytes (suc n) [] a = tt
drop_bytes (suc n) (c ∷ s) a = drop_bytes n s a.1

pub line_bytes : (text : List ℕ) (at : ℕ) → Bytes text → AllBytes (tokens (line_at text at))
line_bytes text at a = tokens_bytes (line_at text at) [] (before_bytes 10 (drop at text) (drop_bytes at text a)) tt
