-- Mirrors the code: how far a part has been read, and how a token, as a number, moves it along. It is the grammar taken apart token by token: a part's
-- tokens taken in turn from the start, then finished, come to what Grammar's `part` says of them (proofs/Laws: `in_turn`).
use Rattle.std.specs.Prelude.{ℕ, true, false, cond, ◌&&◌, Option, Some, None, position, map, eqb}
use Rattle.std.specs.Option.{option_map}
use Rattle.token.specs.Code.Numbers.{numeral, decimal_of, code_of}
use Rattle.part.specs.Grammar.{registers}
use Rattle.part.specs.declared.Part.{Part}
use Rattle.part.specs.declared.Part.TheVariants.{Operation, Transfer, Jump}
use Rattle.part.specs.declared.Target.{Target}
use Rattle.part.specs.declared.Stage.{Stage}
use Rattle.part.specs.declared.Stage.TheVariants.{Start, Named, Assigned, Opened, Shift, First, Sign, Closing, If, Tested, Then, Goto, Whole}

unfoldable pub register_of : ℕ → Option ℕ
register_of t = position (eqb t) (map (numeral 1) registers)

unfoldable pub destination_of : ℕ → Option (Option ℕ)
destination_of t = cond (eqb t (code_of "alu")) (Some None) (option_map (λ r. Some r) (register_of t))

-- Where a formula is whole, a closing bracket may still be wanted.
unfoldable pub completed : Target → Part → Stage
completed target p = cond target.bracket (Closing p) (Whole p)

-- How a token moves on from each stage of a part.
unfoldable pub from_start : ℕ → Option Stage
from_start t =
    cond (eqb t (code_of "rd")) (Some (Whole (Transfer 1 0)))
    (cond (eqb t (code_of "wr")) (Some (Whole (Transfer 0 1)))
    (cond (eqb t (code_of "goto")) (Some (Goto 3))
    (cond (eqb t (code_of "if")) (Some If)
    (option_map (λ to. Named to) (destination_of t)))))

unfoldable pub from_value : Target → ℕ → Option Stage
from_value target t =
    cond (eqb t (code_of "<<")) (Some (Shift target 6))
    (cond (eqb t (code_of ">>")) (Some (Shift target 7))
    (option_map (λ a. First target a) (register_of t)))

unfoldable pub from_shift : Target → ℕ → ℕ → Option Stage
from_shift target f t = option_map (λ a. completed target (Operation target.to f a 0)) (register_of t)

unfoldable pub from_first : Target → ℕ → ℕ → Option Stage
from_first target a t =
    cond (eqb t (code_of "+")) (Some (Sign target 3 a))
    (cond (eqb t (code_of "-")) (Some (Sign target 4 a))
    (cond (eqb t (code_of "^")) (Some (Sign target 5 a))
    (cond (target.bracket && eqb t (code_of ")")) (Some (Whole (Operation target.to 0 a 0)))
    None)))

unfoldable pub from_sign : Target → ℕ → ℕ → ℕ → Option Stage
from_sign target f a t =
    cond (eqb t (code_of "1") && eqb f 3) (Some (completed target (Operation target.to 1 a 0)))
    (cond (eqb t (code_of "1") && eqb f 4) (Some (completed target (Operation target.to 2 a 0)))
    (option_map (λ b. completed target (Operation target.to f a b)) (register_of t)))

unfoldable pub from_goto : ℕ → ℕ → Option Stage
from_goto sq t = option_map (λ k. Whole (Jump sq k)) (decimal_of t)

unfoldable pub advance : Stage → ℕ → Option Stage
advance Start t = from_start t
advance (Named to) t = cond (eqb t (code_of ":=")) (Some (Assigned to)) None
advance (Assigned to) t = cond (eqb t (code_of "(")) (Some (Opened to)) (from_value (record { to = to; bracket = false }) t)
advance (Opened to) t = from_value (record { to = to; bracket = true }) t
advance (Shift target f) t = from_shift target f t
advance (First target a) t = from_first target a t
advance (Sign target f a) t = from_sign target f a t
advance (Closing p) t = cond (eqb t (code_of ")")) (Some (Whole p)) None
advance If t = cond (eqb t (code_of "n")) (Some (Tested 1)) (cond (eqb t (code_of "z")) (Some (Tested 2)) None)
advance (Tested sq) t = cond (eqb t (code_of "then")) (Some (Then sq)) None
advance (Then sq) t = cond (eqb t (code_of "goto")) (Some (Goto sq)) None
advance (Goto sq) t = from_goto sq t
advance (Whole p) t = None

-- The part that ends at a stage.
unfoldable pub finished : Stage → Option Part
finished (First target a) = cond target.bracket None (Some (Operation target.to 0 a 0))
finished (Whole p) = Some p
finished stage = None
