-- `first_token` goes by the first byte: a line's end, a run of one kind, or a sign of one byte or two.
use borrow.Author.Rules.{rules}
use borrow.Author.Tests.{tests}
use Prim.Native.Nat.{ℕ}
use mathlib.Core.Path.{◌≡◌, refl, sym, ap, ◌∙◌}
use mathlib.Core.Bool.{true, false}
use mathlib.Core.List.{List}
use lib.ListN.{take}
use Rattle.std.specs.Prelude.{Option, None}
use Rattle.text.specs.Decimal.{digit}
use Rattle.token.specs.Tokens.{letter}
use Rattle.token.specs.Code.Next.{told, token_len}
use Rattle.token.specs.declared.Token.{Token as Packed}
use Rattle.token.proofs.Runs.{letters, digits, nothing_long, end_long, run_told, sign_long}
use Rattle.token.proofs.first_token.Goals as goal
use Rattle.token.proofs.first_token.Goals.{then-starts_with-via-then-starts_with, then-starts_with-via-else-starts_with+then-starts_with-2, then-starts_with-via-else-starts_with+else-starts_with-2+then-starts_with-3}

-- As many bytes as the token has make the token.
bytes_told : (rest : List ℕ) (n : ℕ) (token : Option Packed) → n ≡ token_len rest → token ≡ told (take n rest) → (n ≡ token_len rest) × (token ≡ told (take (token_len rest) rest))
bytes_told rest n token e t = (e, t ∙ ap (λ (k : ℕ). told (take k rest)) e)

none_told : (rest : List ℕ) → 0 ≡ token_len rest → (0 ≡ token_len rest) × (None ≡ told (take (token_len rest) rest))
unfolding told
none_told rest e = bytes_told rest 0 None e refl

pub returns-in_default : goal.returns-in_default
returns-in_default c = none_told c.args.rest.now (nothing_long c.args.rest.now (c.in_default.ensures ∙ c.first.ensures.value))

pub returns-then-c-eq10 : goal.returns-then-c-eq10
returns-then-c-eq10 c = none_told c.args.rest.now (end_long c.args.rest.now c.in-Some.c (c.in-Some.ensures ∙ c.first.ensures.value) c.if-c-eq10.true)

pub returns-then-is_ascii_lowercase : goal.returns-then-is_ascii_lowercase
returns-then-is_ascii_lowercase c =
    run_told c.args.rest.now c.in-Some.c (c.in-Some.ensures ∙ c.first.ensures.value) letter letters
    (sym c.is_ascii_lowercase.ensures.value ∙ c.if-is_ascii_lowercase.true) _ _
    (c.run-n.ensures letter (λ x b q. search (rules, tests)))

pub returns-then-is_ascii_digit : goal.returns-then-is_ascii_digit
returns-then-is_ascii_digit c =
    run_told c.args.rest.now c.in-Some.c (c.in-Some.ensures ∙ c.first.ensures.value) digit digits
    (sym c.is_ascii_digit.ensures.value ∙ c.if-is_ascii_digit.true) _ _
    (c.run-n-then-is_ascii_digit.ensures digit (λ x b q. search (rules, tests)))

pub returns-then-starts_with : goal.returns-then-starts_with
returns-then-starts_with c =
    let two = sign_long c.args.rest.now c.in-Some.c (c.in-Some.ensures ∙ c.first.ensures.value)
    (sym c.is_ascii_lowercase.ensures.value ∙ c.if-is_ascii_lowercase.false) (sym c.is_ascii_digit.ensures.value ∙ c.if-is_ascii_digit.false)
    c.if-c-eq10.false c.requires true
    (elim c.then-starts_with.branch [
      | then-starts_with-via-then-starts_with w ↦ rw (← c.starts_with.ensures.value, w.if-starts_with.true) refl
      | then-starts_with-via-else-starts_with+then-starts_with-2 w ↦
          rw (← c.starts_with.ensures.value, w.if-starts_with.false, ← w.starts_with-else-starts_with.ensures.value, w.if-starts_with-2.true) refl
      | then-starts_with-via-else-starts_with+else-starts_with-2+then-starts_with-3 w ↦
          rw (
            ← c.starts_with.ensures.value,
            w.if-starts_with.false,
            ← w.starts_with-else-starts_with.ensures.value,
            w.if-starts_with-2.false,
            ← w.starts_with-else-starts_with-2.ensures.value,
            w.if-starts_with-3.true,
          ) refl
    ]) in
    bytes_told c.args.rest.now 2 c.of.result two c.of.ensures

pub returns : goal.returns
returns c =
    let one = sign_long c.args.rest.now c.in-Some.c (c.in-Some.ensures ∙ c.first.ensures.value)
    (sym c.is_ascii_lowercase.ensures.value ∙ c.if-is_ascii_lowercase.false) (sym c.is_ascii_digit.ensures.value ∙ c.if-is_ascii_digit.false)
    c.if-c-eq10.false c.requires false
    (rw (
      ← c.starts_with.ensures.value,
      c.if-starts_with.false,
      ← c.starts_with-else-starts_with.ensures.value,
      c.if-starts_with-2.false,
      ← c.starts_with-else-starts_with-2.ensures.value,
      c.if-starts_with-3.false,
    ) refl) in
    bytes_told c.args.rest.now 1 c.of-2.result one c.of-2.ensures
