-- A whole line: its tokens taken one by one come to what the line means.
use Prim.Native.Nat.{ℕ, ◌≤◌, ◌<◌}
use mathlib.Core.Path.{◌≡◌, refl, sym, ap, ◌∙◌}
use mathlib.Core.Bool.{Bool, true, false, cond, false≢true}
use mathlib.Core.List.{List, [], ◌∷◌, map}
use borrow.Author.Tests.{lt-ltb, le-ltb, ne_eqb}
use native.Mathlib.Omega.{arith}
use lib.Dec.{eqb}
use lib.ListN.{length}
use Rattle.std.specs.Prelude.{Option, Some, None, Ok, Err}
use Rattle.std.specs.Option.{option_and_then, option_eq, unwrap_or}
use Rattle.token.specs.Tokens.{Token, tokens}
use Rattle.token.specs.Code.Next.{packed, scanned}
use Rattle.token.specs.declared.Token.{Token as Packed}
use Rattle.token.specs.declared.Scanned.{Scanned}
use Rattle.token.proofs.Bytes.{Bytes, AllBytes, line_bytes}
use Rattle.token.proofs.Packed.{known}
use Rattle.token.proofs.Next.{taking, next}
use Rattle.part.specs.declared.Part.{Part}
use Rattle.part.proofs.Course.{rest, rest_of, Fine, Begun, Reaches, step, finish}
use Rattle.text.specs.Decimal.{from_decimal}
use Rattle.text.specs.Text.{bytes, ◌is◌, line_at, end_at, next_line, behind_line}
use Rattle.token.proofs.Decimals.{decimal_of_lem}
use Rattle.token.specs.Code.Numbers.{codes_at, decimal_of, code_of}
use Rattle.part.specs.Code.Stage.{advance, finished}
use Rattle.part.specs.declared.Stage.{Stage}
use Rattle.part.specs.declared.Stage.TheVariants.{Start, Named, Assigned, Opened, Shift, First, Sign, Closing, If, Tested, Then, Goto, Whole}
use Rattle.microtext.specs.Onward.{onward}
use Rattle.microtext.specs.Line.{Meaning, cut, divided, last_part, parts, add, nothing, settled, meaning, behind_number, numbered, line}
use Rattle.microtext.specs.Reading.{reading, reading_at}
use Rattle.microtext.specs.declared.Given.{Given}
use Rattle.microtext.specs.declared.Parts.{Parts}
use Rattle.microtext.specs.declared.Fault.TheVariants.{ExtraLine, WrongNumber, Ungrammatical}
use Rattle.microtext.specs.Code.Progress.{in_grammar, part_ended, taken, all_taken, concluded, no_parts}

-- The parts of a line whose first piece has been read up to a stage.
abbrev last_from : Stage → List Token → List (Option Part)
last_from Start p = last_part p
last_from q p = rest q p ∷ []

parts_from : Stage → List (List Token) → List (Option Part)
parts_from q [] = []
parts_from q (p ∷ []) = last_from q p
parts_from q (p ∷ r ∷ ps) = rest q p ∷ parts (r ∷ ps)

pub divided_some : (ts : List Token) → (p : List Token) × (ps : List (List Token)) × (divided ts ≡ p ∷ ps)
unfolding divided cut
divided_some [] = ([], [], refl)
divided_some (t ∷ ts) = go (divided_some ts)
  where
    go : (p : List Token) × (ps : List (List Token)) × (divided ts ≡ p ∷ ps) → (p : List Token) × (ps : List (List Token)) × (cut t (divided ts) ≡ p ∷ ps)
    go (p, ps, e) = rw e (one (t is ";"))
      where
        one : (b : Bool) → (q : List Token) × (qs : List (List Token)) × (cond b ([] ∷ p ∷ ps) ((t ∷ p) ∷ ps) ≡ q ∷ qs)
        one true = ([], p ∷ ps, refl)
        one false = (t ∷ p, ps, refl)

-- From a start the parts are the line's.
from_start : (ps : List (List Token)) → parts_from Start ps ≡ parts ps
unfolding parts_from parts
from_start [] = refl
from_start (p ∷ []) = refl
from_start (p ∷ q ∷ ps) = refl

-- The pieces with one token more, which is a semicolon or not.
divided_semicolon : (t : Token) (ts : List Token) → t is ";" ≡ true → divided (t ∷ ts) ≡ [] ∷ divided ts
unfolding divided cut
divided_semicolon t ts e = go (divided_some ts)
  where
    go : (p : List Token) × (ps : List (List Token)) × (divided ts ≡ p ∷ ps) → cut t (divided ts) ≡ [] ∷ divided ts
    go (p, ps, d) = rw (d, e) refl

-- The first piece ends with a semicolon.
first_ends : (q : Stage) (ts : List Token) → parts_from q ([] ∷ divided ts) ≡ rest q [] ∷ parts (divided ts)
unfolding parts_from
first_ends q ts = go (divided_some ts)
  where
    go : (p : List Token) × (ps : List (List Token)) × (divided ts ≡ p ∷ ps) → parts_from q ([] ∷ divided ts) ≡ rest q [] ∷ parts (divided ts)
    go (p, ps, d) = rw d refl

-- A first piece that has begun, as the last one.
last_begun : (q : Stage) → Begun q → (p : List Token) → last_from q p ≡ rest q p ∷ []
last_begun Start b p = absurd b
last_begun (Named to) b p = refl
last_begun (Assigned to) b p = refl
last_begun (Opened to) b p = refl
last_begun (Shift g f) b p = refl
last_begun (First g a) b p = refl
last_begun (Sign g f a) b p = refl
last_begun (Closing x) b p = refl
last_begun If b p = refl
last_begun (Tested sq) b p = refl
last_begun (Then sq) b p = refl
last_begun (Goto sq) b p = refl
last_begun (Whole x) b p = refl

last_more : (q : Stage) (t : Token) (p : List Token) → last_from q (t ∷ p) ≡ rest q (t ∷ p) ∷ []
unfolding last_part
last_more Start t p = refl
last_more (Named to) t p = refl
last_more (Assigned to) t p = refl
last_more (Opened to) t p = refl
last_more (Shift g f) t p = refl
last_more (First g a) t p = refl
last_more (Sign g f a) t p = refl
last_more (Closing x) t p = refl
last_more If t p = refl
last_more (Tested sq) t p = refl
last_more (Then sq) t p = refl
last_more (Goto sq) t p = refl
last_more (Whole x) t p = refl

-- The first piece goes on to a stage, or to none.
first_goes_on : (q r : Stage) (t : Token) (ts : List Token) → Begun r → t is ";" ≡ false → ((xs : List Token) → rest q (t ∷ xs) ≡ rest r xs)
    → parts_from q (divided (t ∷ ts)) ≡ parts_from r (divided ts)
unfolding divided cut parts_from
first_goes_on q r t ts b e f = go (divided_some ts)
  where
    two : (p : List Token) (ps : List (List Token)) → parts_from q ((t ∷ p) ∷ ps) ≡ parts_from r (p ∷ ps)
    two p [] = last_more q t p ∙ ap (λ (x : Option Part). x ∷ []) (f p) ∙ sym (last_begun r b p)
    two p (x ∷ ps) = ap (λ (y : Option Part). y ∷ parts (x ∷ ps)) (f p)

    go : (p : List Token) × (ps : List (List Token)) × (divided ts ≡ p ∷ ps) → parts_from q (cut t (divided ts)) ≡ parts_from r (divided ts)
    go (p, ps, d) = rw (d, e) (two p ps)

first_stops : (g : Given) (q : Stage) (t : Token) (ts : List Token) → t is ";" ≡ false → ((xs : List Token) → rest q (t ∷ xs) ≡ None)
    → meaning g (parts_from q (divided (t ∷ ts))) ≡ Err Ungrammatical
unfolding divided cut parts_from meaning
first_stops g q t ts e f = go (divided_some ts)
  where
    two : (p : List Token) (ps : List (List Token)) → meaning g (parts_from q ((t ∷ p) ∷ ps)) ≡ Err Ungrammatical
    two p [] = rw (last_more q t p, f p) refl
    two p (x ∷ ps) = rw (f p) refl

    go : (p : List Token) × (ps : List (List Token)) × (divided ts ≡ p ∷ ps) → meaning g (parts_from q (cut t (divided ts))) ≡ Err Ungrammatical
    go (p, ps, d) = rw (d, e) (two p ps)

-- At the end of the tokens: nothing behind a semicolon, or a part.
ends : (g : Given) (q : Stage) → Begun q → Fine q → onward (part_ended (record { given = g; stage = q })) settled ≡ meaning g (rest q [] ∷ [])
unfolding part_ended onward meaning
ends g q b f = rw (finish q f) (go (finished q))
  where
    go : (p : Option Part) → onward (onward (in_grammar p) (λ x. Ok (add g x))) settled ≡ meaning g (p ∷ [])
    go None = refl
    go (Some p) = refl

end_concluded : (g : Given) (q : Stage) → Fine q → concluded (record { given = g; stage = q }) ≡ meaning g (last_from q [])
unfolding concluded last_part meaning
end_concluded g Start f = refl
end_concluded g (Named to) f = ends g (Named to) tt f
end_concluded g (Assigned to) f = ends g (Assigned to) tt f
end_concluded g (Opened to) f = ends g (Opened to) tt f
end_concluded g (Shift x s) f = ends g (Shift x s) tt f
end_concluded g (First x a) f = ends g (First x a) tt f
end_concluded g (Sign x s a) f = ends g (Sign x s a) tt f
end_concluded g (Closing p) f = ends g (Closing p) tt f
end_concluded g If f = ends g If tt f
end_concluded g (Tested sq) f = ends g (Tested sq) tt f
end_concluded g (Then sq) f = ends g (Then sq) tt f
end_concluded g (Goto sq) f = ends g (Goto sq) tt f
end_concluded g (Whole p) f = ends g (Whole p) tt f

-- Tokens taken one by one.
all_taken_lem : (ts : List Token) → AllBytes ts → (g : Given) (q : Stage) → Fine q
    → onward (all_taken (record { given = g; stage = q }) (map packed ts)) concluded ≡ meaning g (parts_from q (divided ts))
unfolding all_taken divided onward parts_from taken part_ended meaning
all_taken_lem [] a g q f = end_concluded g q f
all_taken_lem (t ∷ ts) a g q f = go (t is ";") refl (all_taken_lem ts a.1)
  where
    Law : Type 0
    Law = (g : Given) (q : Stage) → Fine q → onward (all_taken (record { given = g; stage = q }) (map packed ts)) concluded ≡ meaning g (parts_from q (divided ts))

    now : Parts
    now = record { given = g; stage = q }

    -- A semicolon: the part ends, and the next one starts.
    closed : (p : Option Part) → finished q ≡ p → Law
        → onward (onward (onward (onward (in_grammar p) (λ x. Ok (add g x))) (λ x. Ok (record { given = x; stage = Start }))) (λ x. all_taken x (map packed ts))) concluded
        ≡ meaning g (p ∷ parts (divided ts))
    closed None e law = refl
    closed (Some p) e law = law (add g p) Start tt ∙ ap (meaning (add g p)) (from_start (divided ts))

    -- Any other token moves the part along, or is outside the grammar.
    moved : (r : Option Stage) → Reaches r → ((xs : List Token) → rest q (t ∷ xs) ≡ rest_of r xs) → t is ";" ≡ false → Law
        → onward (onward (onward (in_grammar r) (λ x. Ok (record { given = g; stage = x }))) (λ x. all_taken x (map packed ts))) concluded
        ≡ meaning g (parts_from q (divided (t ∷ ts)))
    moved None n s e law = sym (first_stops g q t ts e s)
    moved (Some r) n s e law = law g r n.0 ∙ ap (meaning g) (sym (first_goes_on q r t ts n.1 e s))

    go : (b : Bool) → t is ";" ≡ b → Law → onward (onward (taken now (packed t)) (λ x. all_taken x (map packed ts))) concluded ≡ meaning g (parts_from q (divided (t ∷ ts)))
    go true e law =
        rw (taken_semicolon e) (closed (finished q) refl law)
        ∙ ap (λ (x : Option Part). meaning g (x ∷ parts (divided ts))) (sym (finish q f))
        ∙ ap (meaning g) (sym (first_ends q ts))
        ∙ ap (λ (x : List (List Token)). meaning g (parts_from q x)) (sym (divided_semicolon t ts e))
      where
        taken_semicolon : t is ";" ≡ true → taken now (packed t) ≡ onward (onward (in_grammar (finished q)) (λ x. Ok (add g x))) (λ x. Ok (record { given = x; stage = Start }))
        taken_semicolon e = rw (known t (bytes ";") a.0 refl, e) refl
    go false e law =
        rw (taken_token e) (moved (advance q (packed t)) (step q f t a.0 ts).fine (λ xs. (step q f t a.0 xs).same_part_lem) e law)
      where
        taken_token : t is ";" ≡ false → taken now (packed t) ≡ onward (in_grammar (advance q (packed t))) (λ x. Ok (record { given = g; stage = x }))
        taken_token e = rw (known t (bytes ";") a.0 refl, e) refl

-- A line on its tokens' numbers.
coded_parts : List ℕ → Meaning
coded_parts [] = Err Ungrammatical
coded_parts (c ∷ ts) = cond (eqb c (code_of ":")) (onward (all_taken no_parts ts) concluded) (Err Ungrammatical)

coded : ℕ → List ℕ → Meaning
coded k [] = Err WrongNumber
coded k (n ∷ ts) = cond (option_eq eqb (decimal_of n) (Some k)) (coded_parts ts) (Err WrongNumber)

coded_parts_lem : (ts : List Token) → AllBytes ts → behind_number ts ≡ coded_parts (map packed ts)
unfolding behind_number coded_parts
coded_parts_lem [] a = refl
coded_parts_lem (c ∷ ts) a = rw (known c (bytes ":") a.0 refl, all_taken_lem ts a.1 nothing Start tt, from_start (divided ts)) refl

-- No line that is asked for has the number 100.
same_number : (k : ℕ) → k < 64 → (n : Option ℕ) → eqb (unwrap_or n 100) k ≡ option_eq eqb n (Some k)
same_number k h None = ne_eqb 100 k (λ e. omega arith)
same_number k h (Some n) = refl

coded_line : (k : ℕ) → k < 64 → (ts : List Token) → AllBytes ts → numbered k ts ≡ coded k (map packed ts)
unfolding numbered coded
coded_line k h [] a = refl
coded_line k h (n ∷ ts) a =
    ap (λ (b : Bool). cond b (behind_number ts) (Err WrongNumber)) (same_number k h (from_decimal n))
    ∙ rw (decimal_of_lem n a.0, coded_parts_lem ts a.1) refl

-- A 65th line.
pub extra_line : (text : List ℕ) (at k : ℕ) → 64 ≤ k → Err ExtraLine ≡ reading_at text at k
unfolding reading_at line
extra_line text at k h = rw (le-ltb k 64 h) refl

-- What a line's first two tokens are tested for.
abbrev pub number : Option Packed → Option ℕ
number t = option_and_then (λ (x : Packed). decimal_of x.0) t

abbrev pub is_colon : Option Packed → Bool
is_colon None = false
is_colon (Some t) = eqb t.0 (code_of ":")

-- A line of the first 64, by its first two tokens.
module _ (text : List ℕ) (all_bytes : Bytes text) (at k : ℕ) (h : k < 64) (first : Scanned) (f : first ≡ scanned text at) where
  read : reading_at text at k ≡ reading (coded k (taking first.token (codes_at text first.behind))) (next_line text at)
  unfolding reading_at line
  read =
      rw (lt-ltb k 64 h, coded_line k h (tokens (line_at text at)) (line_bytes text at all_bytes), (next text at first f).codes) refl

  pub wrong_number : option_eq eqb (number first.token) (Some k) ≡ false → Err WrongNumber ≡ reading_at text at k
  unfolding coded
  wrong_number n = sym (read ∙ go first.token n)
    where
      go : (t : Option Packed) → option_eq eqb (number t) (Some k) ≡ false → reading (coded k (taking t (codes_at text first.behind))) (next_line text at) ≡ Err WrongNumber
      go None n = refl
      go (Some t) n = rw n refl

  module _ (e : option_eq eqb (number first.token) (Some k) ≡ true) (colon : Scanned) (c : colon ≡ scanned text first.behind) where
    read_on : reading_at text at k ≡ reading (coded_parts (taking colon.token (codes_at text colon.behind))) (next_line text at)
    unfolding coded
    read_on = read ∙ go first.token e
      where
        go : (t : Option Packed) → option_eq eqb (number t) (Some k) ≡ true
            → reading (coded k (taking t (codes_at text first.behind))) (next_line text at) ≡ reading (coded_parts (taking colon.token (codes_at text colon.behind))) (next_line text at)
        go None z = absurd (false≢true z)
        go (Some t) z = rw (z, (next text first.behind colon c).codes) refl

    pub no_colon : is_colon colon.token ≡ false → Err Ungrammatical ≡ reading_at text at k
    unfolding coded_parts
    no_colon n = sym (read_on ∙ go colon.token n)
      where
        go : (t : Option Packed) → is_colon t ≡ false → reading (coded_parts (taking t (codes_at text colon.behind))) (next_line text at) ≡ Err Ungrammatical
        go None n = refl
        go (Some t) n = rw n refl

    pub with_parts : is_colon colon.token ≡ true
        → reading (onward (all_taken no_parts (codes_at text colon.behind)) concluded) (next_line text colon.behind) ≡ reading_at text at k
    unfolding coded_parts
    with_parts z =
        let q : end_at text colon.behind ≡ end_at text at = (next text first.behind colon c).line_end ∙ (next text at first f).line_end in
        ap (λ (n : ℕ). reading (onward (all_taken no_parts (codes_at text colon.behind)) concluded) (behind_line n (length text))) q
        ∙ sym (read_on ∙ go colon.token z)
      where
        go : (t : Option Packed) → is_colon t ≡ true
            → reading (coded_parts (taking t (codes_at text colon.behind))) (next_line text at) ≡ reading (onward (all_taken no_parts (codes_at text colon.behind)) concluded) (next_line text at)
        go None z = absurd (false≢true z)
        go (Some t) z = rw z refl
