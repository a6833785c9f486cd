-- `begin`: the code takes the fields, reads A and B, computes and stores as the definition says.
use Prim.Native.Nat.{ℕ}
use mathlib.Core.Path.{◌≡◌}
use mathlib.Core.List.{List}
use lib.ListN.{get_or}
use Rattle.microword.specs.declared.Fields.{Fields}
use Rattle.microword.specs.Microword.{fields_of}
use Rattle.microword.proofs.Laws.{fields_within}
use Rattle.microword.specs.Code.Within.{Within}
use Rattle.cycle.specs.Cycle.{result, stored, next_line}
use Rattle.cycle.specs.Code.Standing.{beginning, beginning_on}
use Rattle.cycle.proofs.begin.Goals as goal

within : {m : Fields} (w : ℕ) → m ≡ fields_of w → Within m
within w e = rw e (fields_within w)

begins : (word line : ℕ) (registers : List ℕ) {value next : ℕ} {registers₁ : List ℕ} {m : Fields} → m ≡ fields_of word → value ≡ result m registers
    → next ≡ next_line 6 m value line → registers₁ ≡ stored m value registers
    → beginning word line registers ≡ record { fields = m; next = next; stood = get_or registers m.s 0; registers = registers₁ }
unfolding beginning_on
begins word line registers fields computed on kept = rw (kept, on, computed, fields)

pub bounds-registers-a : goal.bounds-registers-a
bounds-registers-a c = (within _ c.fields_of-m.ensures).a

pub bounds-registers-b : goal.bounds-registers-b
bounds-registers-b c = (within _ c.fields_of-m.ensures).b

pub next_line-next-requires : goal.next_line-next-requires
next_line-next-requires c = (within _ c.fields_of-m.ensures).end

pub bounds-registers-s : goal.bounds-registers-s
bounds-registers-s c = (within _ c.fields_of-m.ensures).s

pub store_value-requires : goal.store_value-requires
store_value-requires c =
    (within _ c.fields_of-m.ensures).s

pub returns : goal.returns
unfolding result
returns c =
    begins _ _ _ c.fields_of-m.ensures c.compute-value.ensures c.next_line-next.ensures c.store_value.ensures
