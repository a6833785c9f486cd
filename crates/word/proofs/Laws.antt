-- Laws of what few bits keep, of fields, of sums and of bytes, each once, for every bit and width.
-- They rest on the library's laws of 2 ^ k and of masks; nothing is assumed.
use Rattle.std.proofs.Common.{◌≡◌, ℕ, zero, suc, ◌+◌, ◌-◌, ◌*◌, ◌/◌, ◌%◌, ◌^◌, ◌<◌, ◌≤◌, List, [], ◌∷◌, length, get_or, drop, sym, ap, ◌∙◌, add-zero, add_assoc, mod-lt, mod-eq_of_lt, mul_assoc, add_comm, one-mul, zero-add, div-one, arith, pow_pos, pow_mono, pow-add, shl_lt, shr-shr}
use native.Mathlib.Nat.{mod-mod, mod-add-mod, add-mod_right, add-mul-mod_self_right, mul-mod_left}
use lib.Bits.{bit_or, or_shifted}
use lib.Arith.{digits_lt}
use lib.Pow.{pow-lt, mod-pow-add, mod-mod-pow, shl-shr, shr_le, high, low, split}
use Rattle.word.specs.Number.{Field, field, placed, kept, joined, total, widths, sum, difference, bytes_of, word_of}

-- No second answer: a promise `r ≡ d` fixes r.
pub only : {A : Type 0} {d r r' : A} → r ≡ d → r' ≡ d → r ≡ r'
only p q = p ∙ sym q

-- What `width` bits keep lies below 2 ^ width, and a number below 2 ^ width is kept whole.
pub kept_below : (width number : ℕ) → kept width number < 2 ^ width
kept_below width number = mod-lt number (pow_pos width)

pub kept_whole : (width : ℕ) {number : ℕ} → number < 2 ^ width → kept width number ≡ number
kept_whole width h = mod-eq_of_lt h

-- A number of `bits` bits is kept whole by as many or more.
pub kept_wide : {bits width number : ℕ} → bits ≤ width → number < 2 ^ bits → kept width number ≡ number
kept_wide {bits} {width} {number} l h = kept_whole width (omega (arith, pow_mono l))

-- The fewer bits decide.
pub kept_fewer : (more width number : ℕ) → kept width (kept (more + width) number) ≡ kept width number
kept_fewer more width number = mod-mod-pow number more width

-- 1 moved up by k places, in a number of w bits.
pub one_up : {k w : ℕ} → k < w → (1 * 2 ^ k) % 2 ^ w ≡ 2 ^ k
one_up {k} l = rw one-mul (mod-eq_of_lt (pow-lt l))

-- What is moved up by k places in a number of j + k bits is a multiple of 2 ^ k.
moved_up : (a j k : ℕ) → kept (j + k) (a * 2 ^ k) ≡ kept j a * 2 ^ k
moved_up a j k = mod-pow-add (a * 2 ^ k) j k ∙ rw (shl-shr a k, mul-mod_left a (2 ^ k)) (add-zero _)

-- What is moved up by as many places as there are bits is gone.
pub moved_out : {w k : ℕ} (a : ℕ) → w ≤ k → kept w (a * 2 ^ k) ≡ 0
moved_out {w} {k} a l =
    let e : k ≡ k - w + w = omega arith in
    ap (λ n. kept w (a * 2 ^ n)) e ∙ rw (pow-add 2 (k - w) w, ← mul_assoc a (2 ^ (k - w)) (2 ^ w)) (mul-mod_left (a * 2 ^ (k - w)) (2 ^ w))

-- Placing by `|` is placing by sum: the room is empty.
pub or_placed : {w k : ℕ} (a v : ℕ) → k ≤ w → bit_or (kept w (a * 2 ^ k)) (kept k v) ≡ kept w (a * 2 ^ k) + kept k v
or_placed {w} {k} a v l =
    let e : w - k + k ≡ w = omega arith in
    let m : kept w (a * 2 ^ k) ≡ kept (w - k) a * 2 ^ k = rw e at (moved_up a (w - k) k) in
    rw m (or_shifted (kept (w - k) a) k (kept k v) (kept_below k v))

-- Where nothing is lost above, the field placed is found at the bottom and what was there above it.
module _ (bits a k v : ℕ) (small : a < 2 ^ bits) (fits : bits + k ≤ 32) where
  room : placed a k v ≡ a * 2 ^ k + kept k v
  room = ap (λ n. n + kept k v) (kept_wide fits (shl_lt bits k small))

  pub placed_below : placed a k v < 2 ^ (bits + k)
  placed_below = rw (room, pow-add 2 bits k) (digits_lt small (kept_below k v))

  pub placed_low : kept k (placed a k v) ≡ kept k v
  placed_low = rw room (low a k (kept_below k v))

  pub placed_high : (low width : ℕ) → field (k + low) width (placed a k v) ≡ field low width a
  placed_high low width = rw (← shr-shr (placed a k v) k low, room, high a k (kept_below k v))

-- What is placed below does not move the fields above.
pub joined_high : (fs : List Field) (bits a : ℕ) → a < 2 ^ bits → bits + total fs ≤ 32 → (low width : ℕ)
    → field (total fs + low) width (joined a fs) ≡ field low width a
unfolding joined total
joined_high [] bits a small fits low width = rw zero-add
joined_high (f ∷ fs) bits a small fits low width =
    let e : f.width + total fs + low ≡ total fs + (f.width + low) = omega arith in
    rw e
    (joined_high fs (bits + f.width) (placed a f.width f.value) (placed_below bits a f.width f.value small (omega arith)) (omega arith) (f.width + low) width
    ∙ placed_high bits a f.width f.value small (omega arith) low width)

-- Fields placed below a number of `bits` bits make one of as many bits more.
pub joined_below : (fs : List Field) (bits a : ℕ) → a < 2 ^ bits → bits + total fs ≤ 32 → joined a fs < 2 ^ (bits + total fs)
unfolding joined total
joined_below [] bits a small fits = rw add-zero small
joined_below (f ∷ fs) bits a small fits =
    rw (← add_assoc)
    (joined_below fs (bits + f.width) (placed a f.width f.value) (placed_below bits a f.width f.value small (omega arith)) (omega arith))

abbrev pub empty : Field
empty = record { width = 0; value = 0 }

-- Each field that was placed is found again where it was placed.
pub joined_at : (fs : List Field) (i bits a : ℕ) → i < length fs → a < 2 ^ bits → bits + total fs ≤ 32
    → field (total (drop (suc i) fs)) (get_or fs i empty).width (joined a fs) ≡ kept (get_or fs i empty).width (get_or fs i empty).value
unfolding joined total
joined_at [] i bits a h small fits = let z : ⊥ = omega arith in absurd z
joined_at (f ∷ fs) zero bits a h small fits =
    let k : ℕ = f.width in
    let high : placed a k f.value < 2 ^ (bits + k) = placed_below bits a k f.value small (omega arith) in
    rw (← add-zero (total fs))
    (joined_high fs (bits + k) (placed a k f.value) high (omega arith) 0 k ∙ rw div-one (placed_low bits a k f.value small (omega arith)))
joined_at (f ∷ fs) (suc i) bits a h small fits =
    joined_at fs i (bits + f.width) (placed a f.width f.value) (omega arith) (placed_below bits a f.width f.value small (omega arith)) (omega arith)

-- The fields of a number at these widths, highest first, the last at bit 0.
unfoldable pub taken : List ℕ → ℕ → List Field
taken [] n = []
taken (k ∷ ks) n = record { width = k; value = field (widths ks) k n } ∷ taken ks n

-- Placing what was taken gives the number back.
pub joined_taken : (ks : List ℕ) (n : ℕ) → n < 2 ^ 32 → joined (n / 2 ^ widths ks) (taken ks n) ≡ n
unfolding joined taken widths
joined_taken [] n h = div-one n
joined_taken (k ∷ ks) n h =
    let m : ℕ = n / 2 ^ widths ks in
    let e : n / 2 ^ (k + widths ks) ≡ m / 2 ^ k = rw (shr-shr n (widths ks) k, add_comm k (widths ks)) in
    let g : m / 2 ^ k * 2 ^ k ≤ m = omega (arith, split m k) in
    let l : m ≤ n = shr_le n (widths ks) in
    let s : m / 2 ^ k * 2 ^ k < 2 ^ 32 = omega arith in
    let w : placed (m / 2 ^ k) k (kept k m) ≡ m = rw (kept_whole 32 s, mod-mod m (2 ^ k)) (split m k) in
    ap (λ (a : ℕ). joined (placed a k (kept k m)) (taken ks n)) e ∙ ap (λ (a : ℕ). joined a (taken ks n)) w ∙ joined_taken ks n h

-- A difference, added again, is what it was taken from.
pub restored : (width a b : ℕ) → sum width (difference width a b) b ≡ kept width a
restored width a b =
    let e : a + (2 ^ width - kept width b) + b ≡ a + 2 ^ width + b / 2 ^ width * 2 ^ width = omega (arith, split b width, kept_below width b) in
    rw (mod-add-mod, e, add-mul-mod_self_right, add-mod_right)

-- A word and its two bytes turn back into each other.
pub bytes_back : (word : ℕ) → word < 65536 → word_of (bytes_of word) ≡ word
bytes_back word h = omega arith

pub word_back : (high low : ℕ) → high < 256 → low < 256 → bytes_of (word_of (high ∷ low ∷ [])) ≡ high ∷ low ∷ []
word_back high low h l =
    let a : (high * 256 + low) / 256 % 256 ≡ high = omega arith in
    let b : (high * 256 + low) / 1 % 256 ≡ low = omega arith in
    rw (a, b)
