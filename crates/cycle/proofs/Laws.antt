-- Laws of a cycle: what it comes to from its store on, what a refused one leaves, where it ends, and no second answer.
use Prim.Native.Nat.{ℕ, ◌+◌, ◌^◌, ◌<◌}
use mathlib.Core.Path.{◌≡◌, refl, sym, ◌∙◌, ap, subst}
use mathlib.Core.Bool.{Bool, true, false, cond, not, ◌&&◌, true≢false}
use mathlib.Core.List.{List}
use Rattle.std.specs.Prelude.{Result, Ok, Err}
use lib.ListN.{get_or, set}
use lib.Seq.{set-set, set-get_or}
use lib.Dec.{eqb}
use Rattle.turns.specs.Turns.{Turn, settled}
use Rattle.bus.specs.declared.Stop.{Stop}
use Rattle.bus.specs.Stops.{number}
use Rattle.bus.proofs.Laws.{result_only, stops_by}
use Rattle.datapath.specs.declared.Half.{Half}
use Rattle.datapath.specs.declared.Moving.{Moving}
use Rattle.datapath.specs.declared.Half.TheVariants.{Nothing}
use Rattle.datapath.specs.Transfer.{Transfer, moved, waits, transferred, left_in}
use Rattle.datapath.proofs.Laws.{transfer_refused, rdm_stays}
use Rattle.bus.specs.Ports.{Left}
use Rattle.microword.specs.declared.Fields.{Fields}
use Rattle.microword.specs.Microword.{Layout, narrow, fields_of}
use Rattle.microword.proofs.Laws.{fields_within}
use Rattle.microword.specs.Code.Within.{WithinBy, Within}
use Rattle.word.proofs.Laws.{kept_below}
use Rattle.word.proofs.Tests.{either}
use Rattle.cycle.specs.Cycle.{State, result, stored, found, transfer, target, next_line, arrived, driven, cycle_on}
use Rattle.cycle.specs.Code.Standing.{stepped, Beginning, beginning_on, beginning}
use Rattle.cycle.specs.declared.Standing.{Standing}

standing_only : {line line' place place' count count' : ℕ} {half half' : Half} → line ≡ line' → half ≡ half' → place ≡ place' → count ≡ count'
    → ◌≡◌ {A = Standing} (record { line = record { 0 = line }; half = half; place = place; count = count })
    (record { line = record { 0 = line' }; half = half'; place = place'; count = count' })
standing_only p q r t = rw (p, q, r, t)

-- No second answer: a cycle's promise fixes what it hands back and all three lent lists.
pub step_only : {d : Turn State} (before : Standing) (r r' : Result Standing Stop) {registers registers' memory memory' log log' : List ℕ} → d ≡ stepped before r registers memory log
    → d ≡ stepped before r' registers' memory' log' → (r ≡ r') × (registers ≡ registers') × (memory ≡ memory') × (log ≡ log')
step_only before r r' p q =
    let e = sym p ∙ q in (
      result_only before r r'
          (standing_only (ap (λ (c : Turn State). c.next.line) e) (ap (λ (c : Turn State). c.next.half) e) (ap (λ (c : Turn State). c.next.place) e)
          (ap (λ (c : Turn State). c.next.count) e)) (ap (λ (c : Turn State). c.stop) e),
      ap (λ (c : Turn State). c.next.registers) e,
      ap (λ (c : Turn State). c.next.memory) e,
      ap (λ (c : Turn State). c.next.log) e,
    )

-- Putting back what stood in S undoes the store.
restored : (m : Fields) (value : ℕ) (registers : List ℕ) (hs : Bool) → eqb m.hs 1 ≡ hs
    → set (stored m value registers) m.s (get_or registers m.s 0) ≡ registers
unfolding stored
restored m value registers true e = rw (e, set-set) (set-get_or registers m.s 0)
restored m value registers false e = rw e (set-get_or registers m.s 0)

-- The fields that a cycle goes by are below their bounds.
began_within_by : (l : Layout) (bits : ℕ) (m : Fields) (line : ℕ) (registers : List ℕ) {b : Beginning} → WithinBy l m → beginning_on bits m line registers ≡ b
    → WithinBy l b.fields
unfolding beginning_on
began_within_by l bits m line registers w first = subst (λ (x : Beginning). WithinBy l x.fields) first w

pub began_within : (word line : ℕ) (registers : List ℕ) {b : Beginning} → beginning word line registers ≡ b → Within b.fields
began_within word line registers first = began_within_by narrow 6 (fields_of word) line registers (fields_within word) first

-- A cycle from its store on, by what its transfer comes to.
module _ (bits : ℕ) (m : Fields) (input : List ℕ) (s : State) {b : Beginning} (first : beginning_on bits m s.line s.registers ≡ b) where
  goes_on : cycle_on bits m input s ≡ settled s (arrived b.next b.registers (transfer b.fields input b.registers s))
  unfolding cycle_on driven beginning_on
  goes_on = ap (λ (x : Beginning). settled s (arrived x.next x.registers (transfer x.fields input x.registers s))) first

  put_back : set b.registers b.fields.s b.stood ≡ s.registers
  unfolding beginning_on
  put_back =
      subst (λ (x : Beginning). set x.registers x.fields.s x.stood ≡ s.registers) first
      (restored m (result m s.registers) s.registers (eqb m.hs 1) refl)

  module _ (memory log : List ℕ) where
    abbrev before : Moving
    before = record { rdm = get_or b.registers 7 0; half = s.half; place = s.place; count = s.count }

    abbrev moves : Result Moving Stop → Type 0
    moves r = transferred (eqb b.fields.rd 1) (eqb b.fields.wr 1) input s.half (found b.registers s) ≡ moved before r memory log

    -- Without RD the transfer's RDM is the one that stands there.
    same_rdm : (r : Moving) → moves (Ok r) → (rd : Bool) → eqb b.fields.rd 1 ≡ rd → cond rd (set b.registers 7 r.rdm) b.registers ≡ set b.registers 7 r.rdm
    same_rdm r m true e = refl
    same_rdm r m false e =
        let w : r.rdm ≡ get_or b.registers 7 0 = sym (ap (λ (x : Transfer). x.rdm) (rw e at m)) ∙ rdm_stays (eqb b.fields.wr 1) input s.half (found b.registers s) in
        rw w (sym (set-get_or b.registers 7 0))

    pub carried : (r : Moving) → moves (Ok r)
        → cycle_on bits m input s
        ≡ record { next = record { line = b.next; registers = cond (eqb b.fields.rd 1) (set b.registers 7 r.rdm) b.registers; half = r.half; place = r.place; count = r.count; memory = memory; log = log }; stop = 0; cost = 1 }
    unfolding settled transfer
    carried r m = rw (goes_on, m, same_rdm r m _ refl)

    -- A refused transfer leaves memory and log as they were.
    pub refused : (stop : Stop) → moves (Err stop)
        → cycle_on bits m input s
        ≡ record { next = record { line = s.line; registers = set b.registers b.fields.s b.stood; half = s.half; place = s.place; count = s.count; memory = memory; log = log }; stop = number stop; cost = cond (eqb (number stop) 0) 1 0 }
    unfolding settled transfer
    refused stop m =
        let e : left_in (moved before (Err stop) memory log) ≡ record { memory = s.memory; log = s.log; count = s.count; stop = number stop } =
        rw m at (transfer_refused (eqb b.fields.rd 1) (eqb b.fields.wr 1) input s.half (found b.registers s) (ap (λ (x : Transfer). eqb x.stop 0) m ∙ stops_by stop)) in
        rw (goes_on, m, stops_by stop, put_back, ap (λ (x : Left). x.memory) e, ap (λ (x : Left). x.log) e)

  -- Without RD and WR nothing is transferred, and RDM is what stands there.
  pub rests : (not (eqb b.fields.rd 1) && not (eqb b.fields.wr 1)) ≡ true
      → cycle_on bits m input s
      ≡ record { next = record { line = b.next; registers = b.registers; half = Nothing; place = s.place; count = s.count; memory = s.memory; log = s.log }; stop = 0; cost = 1 }
  unfolding settled transfer transferred waits
  rests e =
      let n : (eqb b.fields.rd 1 ≡ false) × (eqb b.fields.wr 1 ≡ false) = both (eqb b.fields.rd 1) (eqb b.fields.wr 1) e in
      rw (goes_on, n.0, n.1, set-get_or b.registers 7 0)
    where
      both : (p q : Bool) → (not p && not q) ≡ true → (p ≡ false) × (q ≡ false)
      both true q e = absurd (true≢false (sym e))
      both false true e = absurd (true≢false (sym e))
      both false false e = (refl, refl)

-- What holds before a cycle and after what its control word drives holds after the cycle.
pub settled_keeps : (P : State → Type 0) (s : State) (t : Turn State) → P s → P t.next → P (settled s t).next
unfolding settled
settled_keeps P s t h g = either (λ (x : Turn State). P x.next) (eqb t.stop 0) g h

-- A cycle that starts at one of the lines ends at one.
pub target_within : (bits : ℕ) (m : Fields) (jump : Bool) (line : ℕ) → m.end < 2 ^ bits → target bits m jump line < 2 ^ bits
unfolding target
target_within bits m true line h = h
target_within bits m false line h = kept_below bits (line + 1)

pub line_within : (bits : ℕ) (m : Fields) (input : List ℕ) (s : State) {a : Turn State} → m.end < 2 ^ bits → s.line < 2 ^ bits → cycle_on bits m input s ≡ a → a.next.line < 2 ^ bits
unfolding cycle_on driven next_line
line_within bits m input s w h e =
    subst (λ (c : Turn State). c.next.line < 2 ^ bits) e
    (settled_keeps (λ t. t.line < 2 ^ bits) s (driven bits m input s) h (target_within bits m _ s.line w))
