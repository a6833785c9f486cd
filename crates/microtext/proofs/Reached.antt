-- The loop over a line's tokens: those that are taken and those that are still to come make up the whole line.
use Prim.Native.Nat.{ℕ, ◌+◌, ◌-◌, ◌≤◌, ◌<◌}
use mathlib.Core.Path.{◌≡◌, refl, sym, ap, ◌∙◌}
use mathlib.Core.List.{List}
use native.Mathlib.Omega.{arith}
use lib.ListN.{length}
use Rattle.std.specs.Prelude.{Option, Some, None, Ok, Err}
use Rattle.token.specs.Code.Next.{scanned}
use Rattle.token.specs.declared.Token.{Token as Packed}
use Rattle.token.specs.declared.Scanned.{Scanned}
use Rattle.token.proofs.Next.{taking, NextToken, next as next_token}
use Rattle.text.specs.Text.{end_at, behind_line, next_line}
use Rattle.token.specs.Code.Numbers.{codes_at}
use Rattle.microtext.specs.Onward.{onward}
use Rattle.microtext.specs.declared.Fault.{Fault}
use Rattle.microtext.specs.declared.Parts.{Parts}
use Rattle.microtext.specs.Line.{Meaning}
use Rattle.microtext.specs.Reading.{reading}
use Rattle.microtext.specs.Code.Progress.{taken, all_taken, concluded, no_parts}

pub record Reached (text : List ℕ) (at : ℕ) (parts : Parts) (next : Scanned) : Type 0 where
  pub all : all_taken parts (taking next.token (codes_at text next.behind)) ≡ all_taken no_parts (codes_at text at)
  pub line_end : end_at text next.behind ≡ end_at text at
  pub none : next.token ≡ None → next.behind ≡ end_at text at
  pub inside : (token : Packed) → next.token ≡ Some token → next.behind ≤ length text

pub reached_start : (text : List ℕ) (at : ℕ) (next : Scanned) → next ≡ scanned text at → Reached text at no_parts next
reached_start text at next e =
    let n : NextToken text at next = next_token text at next e in
    record { all = ap (all_taken no_parts) (sym n.codes); line_end = n.line_end; none = n.none; inside = λ t e. (n.some t e).1 }

-- The token that is next, taken: the parts go on, or the line is refused.
module _ (text : List ℕ) (at : ℕ) (parts : Parts) (next : Scanned) (token : Packed) (r : Reached text at parts next) (s : next.token ≡ Some token) where
  one_taken : onward (taken parts token.0) (λ qs. all_taken qs (codes_at text next.behind)) ≡ all_taken no_parts (codes_at text at)
  unfolding all_taken
  one_taken = ap (λ (t : Option Packed). all_taken parts (taking t (codes_at text next.behind))) (sym s) ∙ r.all

  pub reached_next : (parts' : Parts) (next' : Scanned) → Ok parts' ≡ taken parts token.0 → next' ≡ scanned text next.behind → Reached text at parts' next'
  unfolding onward
  reached_next parts' next' p q =
      let n : NextToken text next.behind next' = next_token text next.behind next' q in
      record {
        all = ap (all_taken parts') (sym n.codes) ∙ (rw (← p) at one_taken);
        line_end = n.line_end ∙ r.line_end;
        none = λ z. n.none z ∙ r.line_end;
        inside = λ t z. (n.some t z).1;
      }

  pub reached_fault : (f : Fault) → Err f ≡ taken parts token.0 → Err f ≡ all_taken no_parts (codes_at text at)
  unfolding onward
  reached_fault f p = rw (← p) at one_taken

pub reached_end : (text : List ℕ) (at : ℕ) (parts : Parts) (next : Scanned) → Reached text at parts next → next.token ≡ None
    → (Ok parts ≡ all_taken no_parts (codes_at text at)) × (next.behind ≡ end_at text at)
unfolding all_taken
reached_end text at parts next r e =
    (ap (λ (t : Option Packed). all_taken parts (taking t (codes_at text next.behind))) (sym e) ∙ r.all, r.none e)

-- What is left of the text falls.
abbrev pub left_of : Option Packed → ℕ → ℕ
left_of None n = 0
left_of (Some token) n = n

abbrev pub remaining : List ℕ → Scanned → ℕ
remaining text next = left_of next.token (length text + 1 - next.behind)

pub remaining_less : (text : List ℕ) (at : ℕ) (parts : Parts) (next next' : Scanned) (token : Packed) → Reached text at parts next → next.token ≡ Some token
    → next' ≡ scanned text next.behind → remaining text next' < remaining text next
remaining_less text at parts next next' token r s p = rw s (go next'.token refl (r.inside token s))
  where
    n : NextToken text next.behind next'
    n = next_token text next.behind next' p

    go : (t : Option Packed) → next'.token ≡ t → next.behind ≤ length text → left_of t (length text + 1 - next'.behind) < length text + 1 - next.behind
    go None q h = omega arith
    go (Some t) q h = omega (arith, (n.some t q).0, (n.some t q).1)

-- What the line comes to: refused at a token, or at its end what its parts conclude.
pub line_refused : (text : List ℕ) (at n : ℕ) (f : Fault) → Err f ≡ all_taken no_parts (codes_at text at)
    → Err f ≡ reading (onward (all_taken no_parts (codes_at text at)) concluded) n
unfolding onward
line_refused text at n f e = rw (← e) refl

pub line_read : (text : List ℕ) (at behind : ℕ) (parts : Parts) (next : Scanned) (m : Meaning) → Reached text at parts next → next.token ≡ None
    → m ≡ concluded parts → behind ≡ behind_line next.behind (length text)
    → reading m behind ≡ reading (onward (all_taken no_parts (codes_at text at)) concluded) (next_line text at)
unfolding onward
line_read text at behind parts next m r e c b =
    let d = reached_end text at parts next r e in
    rw (← d.0, ← d.1, c, b) refl
