-- `read_line` judges the number and the colon by the first two tokens, and hands on the rest.
use borrow.Author.Rules.{rules}
use mathlib.Core.Path.{◌≡◌, refl, sym, ap, ◌∙◌}
use mathlib.Core.Bool.{Bool}
use Prim.Native.Nat.{ℕ}
use native.Mathlib.Omega.{arith}
use borrow.Author.Tests.{not-true, not-false}
use lib.Dec.{eqb}
use Rattle.std.specs.Prelude.{Option, Some, None}
use Rattle.std.specs.Option.{option_eq}
use Rattle.token.specs.declared.Token.{Token}
use Rattle.token.proofs.Bytes.{bytes_all}
use Rattle.microtext.proofs.Whole.{number, is_colon, wrong_number, no_colon, with_parts}
use Rattle.microtext.proofs.read_line.Goals as goal

-- The code's tests are the definitions'.
same_number : (k : ℕ) (t : Option Token) {r : Option ℕ} → r ≡ number t → option_eq eqb (number t) (Some k) ≡ option_eq eqb r (Some k)
same_number k t e = ap (λ (x : Option ℕ). option_eq eqb x (Some k)) (sym e)

same_colon : (E : Token → Token → Bool) → ((x y : Token) → E x y ≡ eqb x.0 y.0) → (t : Option Token) → is_colon t ≡ option_eq E t (Some (record { 0 = 314 }))
same_colon E e None = refl
same_colon E e (Some t) = sym (e t (record { 0 = 314 }))

pub returns-then-ne : goal.returns-then-ne
returns-then-ne c =
    let text = c.args.text.now in
    let bytes = bytes_all text (λ i. omega (arith, c.type_inv.text i)) in
    let n : c.and_then.result ≡ number c.next_token-first.result.token = search rules in
    wrong_number text bytes c.args.at c.args.line.0 (omega arith) c.next_token-first.result c.next_token-first.ensures
    (same_number c.args.line.0 c.next_token-first.result.token n ∙ not-true _ (sym c.ne.ensures ∙ c.if-ne.true))

pub returns-then-ne-2 : goal.returns-then-ne-2
returns-then-ne-2 c =
    let text = c.args.text.now in
    let bytes = bytes_all text (λ i. omega (arith, c.type_inv.text i)) in
    let n : c.and_then.result ≡ number c.next_token-first.result.token = search rules in
    no_colon text bytes c.args.at c.args.line.0 (omega arith) c.next_token-first.result c.next_token-first.ensures
    (same_number c.args.line.0 c.next_token-first.result.token n ∙ not-false _ (sym c.ne.ensures ∙ c.if-ne.false)) c.next_token-colon.result c.next_token-colon.ensures
    (same_colon _ (λ x y. refl) c.next_token-colon.result.token ∙ not-true _ (sym c.ne-2.ensures ∙ c.if-ne-2.true))

pub returns : goal.returns
returns c =
    let text = c.args.text.now in
    let bytes = bytes_all text (λ i. omega (arith, c.type_inv.text i)) in
    let n : c.and_then.result ≡ number c.next_token-first.result.token = search rules in
    c.read_parts.ensures
    ∙ with_parts text bytes c.args.at c.args.line.0 (omega arith) c.next_token-first.result c.next_token-first.ensures
    (same_number c.args.line.0 c.next_token-first.result.token n ∙ not-false _ (sym c.ne.ensures ∙ c.if-ne.false)) c.next_token-colon.result c.next_token-colon.ensures
    (same_colon _ (λ x y. refl) c.next_token-colon.result.token ∙ not-false _ (sym c.ne-2.ensures ∙ c.if-ne-2.false))
