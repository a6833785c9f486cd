-- What holds of the assembler's promise: no second answer satisfies it, and its words are normal.
use Prim.Native.Nat.{ℕ, zero, suc}
use mathlib.Core.Path.{◌≡◌, refl, sym, ap, ◌∙◌}
use mathlib.Core.Bool.{Bool, true, false, cond}
use mathlib.Core.List.{List, [], ◌∷◌}
use native.Mathlib.Omega.{arith}
use lib.Dec.{leb, eqb}
use lib.ListN.{length, set, replicate}
use Rattle.word.proofs.Tests.{All}
use Rattle.microword.specs.Microword.{fields_of, idle, binary, unused_clear, is_normal}
use Rattle.store.specs.Store.{wrong_store}
use Rattle.microtext.specs.Line.{Meaning, line, number as fault_number}
use Rattle.microtext.specs.declared.Fault.{Fault}
use Rattle.microtext.specs.declared.Fault.TheVariants.{ExtraLine, WrongNumber, Ungrammatical, FarTarget, WrongParts}
use Rattle.microtext.specs.Onward.{onward}
use Rattle.word.specs.Answer.{answered}
use Rattle.std.specs.Prelude.{Result, Ok, Err}
use Rattle.text.specs.Text.{lines}
use Rattle.microassembler.specs.Assembled.{number, Words, filled, zero_words, Outcome, outcome, assembled}
use Rattle.microassembler.specs.declared.Refusal.{Refusal}
use Rattle.microassembler.specs.declared.Refusal.TheVariants.{WrongSize, LongText, Line}
use Rattle.microassembler.proofs.Normal.{line_normal}

-- A faulty line has a number of its own, and so has every answer.
fault_told : (f : Fault) → fault_number f ≡ 0 → ⊥
fault_told ExtraLine e = omega arith
fault_told WrongNumber e = omega arith
fault_told Ungrammatical e = omega arith
fault_told FarTarget e = omega arith
fault_told WrongParts e = omega arith

-- What a call answers, told back from its number.
abbrev Answer : Type 0
Answer = Result (Unit {0}) Refusal

answer_of : ℕ → Answer
answer_of n =
    cond (eqb n 0) (Ok tt)
    (cond (eqb n 1) (Err WrongSize)
    (cond (eqb n 10) (Err LongText)
    (cond (eqb n 11) (Err (Line ExtraLine))
    (cond (eqb n 12) (Err (Line WrongNumber))
    (cond (eqb n 13) (Err (Line Ungrammatical))
    (cond (eqb n 14) (Err (Line FarTarget)) (Err (Line WrongParts))))))))

answer_back : (a : Answer) → answer_of (answered number a) ≡ a
unfolding answer_of
answer_back (Ok done) = refl
answer_back (Err WrongSize) = refl
answer_back (Err LongText) = refl
answer_back (Err (Line ExtraLine)) = refl
answer_back (Err (Line WrongNumber)) = refl
answer_back (Err (Line Ungrammatical)) = refl
answer_back (Err (Line FarTarget)) = refl
answer_back (Err (Line WrongParts)) = refl

-- No second answer, and no second store afterwards.
pub only : (text store : List ℕ) (a b : Result (Unit {0}) Refusal) (x y : List ℕ) → assembled text store ≡ record { answer = answered number a; store = x }
    → assembled text store ≡ record { answer = answered number b; store = y } → (a ≡ b) × (x ≡ y)
only text store a b x y p q =
    let e = sym p ∙ q in
    (sym (answer_back a) ∙ ap (λ (o : Outcome). answer_of o.answer) e ∙ answer_back b, ap (λ (o : Outcome). o.store) e)

-- Every word of an assembled store is normal.
abbrev AllNormal : List ℕ → Type 0
AllNormal ws = All (λ (w : ℕ). is_normal w ≡ true) ws

set_normal : (ws : List ℕ) (k w : ℕ) → AllNormal ws → is_normal w ≡ true → AllNormal (set ws k w)
set_normal [] k w a e = tt
set_normal (x ∷ ws) zero w a e = (e, a.1)
set_normal (x ∷ ws) (suc k) w a e = (a.0, set_normal ws k w a.1 e)

filled_normal : (ls : List (List ℕ)) (k : ℕ) (ws vs : List ℕ) → AllNormal ws → filled k ws ls ≡ Ok vs → AllNormal vs
unfolding filled onward
filled_normal [] k ws vs a e = let v : ws ≡ vs = cc in rw v at a
filled_normal (l ∷ ls) k ws vs a e = go (line k l) refl e (filled_normal ls)
  where
    go : (m : Meaning) → line k l ≡ m → onward m (λ w. filled (suc k) (set ws k w) ls) ≡ Ok vs
        → ((j : ℕ) (us vs : List ℕ) → AllNormal us → filled j us ls ≡ Ok vs → AllNormal vs) → AllNormal vs
    go (Ok w) p q f = f (suc k) (set ws k w) vs (set_normal ws k w a (line_normal k l w p)) q
    go (Err x) p q f = let o : ◌≡◌ {A = ℕ} 0 1 = cc in absurd (omega arith)

zero_normal : (n : ℕ) → AllNormal (replicate n 0)
unfolding is_normal unused_clear fields_of idle binary
zero_normal zero = tt
zero_normal (suc n) = (refl, zero_normal n)

pub words_normal : (text store vs : List ℕ) → assembled text store ≡ record { answer = 0; store = vs } → AllNormal vs
unfolding assembled
words_normal text store vs e = go (wrong_store store) (leb (length text) 8192) (filled 0 zero_words (lines text)) refl e
  where
    go : (s t : Bool) (o : Words) → filled 0 zero_words (lines text) ≡ o
        → cond s (record { answer = 1; store = store }) (cond t (outcome store o) (record { answer = 10; store = store })) ≡ record { answer = 0; store = vs } → AllNormal vs
    go true t o p q = let a : ◌≡◌ {A = ℕ} 1 0 = ap (λ (x : Outcome). x.answer) q in absurd (omega arith)
    go false false o p q = let a : ◌≡◌ {A = ℕ} 10 0 = ap (λ (x : Outcome). x.answer) q in absurd (omega arith)
    go false true (Ok ws) p q = let v : ws ≡ vs = ap (λ (x : Outcome). x.store) q in rw v at (filled_normal (lines text) 0 zero_words ws (zero_normal 64) p)
    go false true (Err f) p q = absurd (fault_told f (ap (λ (x : Outcome). x.answer) q))
