-- Strings that are drawn are there.
use Rattle.std.proofs.Common.{◌≡◌, ℕ, zero, suc, ◌+◌, ◌-◌, ◌<◌, ◌≤◌, Bool, true, false, cond, refl, arith}
use Rattle.std.specs.Prelude.{min, nat_lt, ◌&&◌, ◌==◌, Some}
use Rattle.std.proofs.Math.Nat.{mod-lt}
use Rattle.rand_pcg.specs.Lcg.{Lcg}
use Rattle.rand_pcg.specs.Pcg.{pcg32}
use Rattle.vr_gen.specs.Draws.{draw}
use Rattle.vr_model.specs.deciding.Testing.{and_left, and_right}
use Rattle.vr_model.proofs.tables.Tests.{lt_of_test}
use Rattle.vr_strings.specs.declared.drawing.StringSize.{StringSize}
use Rattle.vr_strings.specs.Strings.{size_of, drawn_size, drawn_first, stay_of, drawn_stay, drawn_string, least_first, greatest_first}
use Rattle.vr_strings.specs.Strings.{IsSizeIn, IsStringAt}

pub draw_below : (k : ℕ) (words : Lcg) → 0 < k → (draw k words).0 < k
draw_below k words h = mod-lt (pcg32 words).0 h

-- ---- the size

size_is : (n out : ℕ) (words : Lcg) → 1 ≤ out → out ≤ n → (b : Bool) → (b ≡ true → (1 < out) × (out < n)) → IsSizeIn n (size_of b out words).0
size_is n out words least most true h = by ((draw 2 words).0 == 0)
  where
    by : (b : Bool) → IsSizeIn n (record { out = out; kept = cond b 1 0 })
    by true = let r = h refl in record { some = least; fits = omega (arith, r.1); kept = λ k. (refl, r.0) }
    by false = record { some = least; fits = omega (arith, most); kept = λ k. absurd (omega (arith, k)) }
size_is n out words least most false h = record { some = least; fits = omega (arith, most); kept = λ k. absurd (omega (arith, k)) }

pub size_fits : (longest n : ℕ) (words : Lcg) → 1 ≤ longest → 1 ≤ n → IsSizeIn n (drawn_size longest n words).0
size_fits longest n words long least =
    let d = draw (min longest n) words in
    let low : d.0 < min longest n = draw_below (min longest n) words (omega (arith, long, least)) in
    size_is n (1 + d.0) d.1 (omega arith) (omega (arith, low)) (nat_lt 1 (1 + d.0) && nat_lt (1 + d.0) n)
    (λ h. (lt_of_test 1 (1 + d.0) (and_left (nat_lt 1 (1 + d.0)) _ h), lt_of_test (1 + d.0) n (and_right (nat_lt 1 (1 + d.0)) _ h)))

-- ---- the first place

pub record IsFirstIn (width n p a : ℕ) : Type 0 where
  pub from : a ≤ p
  pub until : p < a + width
  pub to : a + width ≤ n

pub first_fits : (width n p : ℕ) (words : Lcg) → 1 ≤ width → width ≤ n → p < n → IsFirstIn width n p (drawn_first width n p words).0
first_fits width n p words least fits place =
    let lo = least_first width p in
    let k = (greatest_first width n p - lo) + 1 in
    let low : (draw k words).0 < k = draw_below k words (omega arith) in
    by (draw k words).0 low
  where
    by : (d : ℕ) → d < (min p (n - width) - ((p + 1) - width)) + 1 → IsFirstIn width n p (((p + 1) - width) + d)
    by d low =
        record { from = omega (arith, low, least, fits, place); until = omega (arith, low, least, fits, place); to = omega (arith, low, least, fits, place) }

-- ---- the place that stays

stay_is : (out a : ℕ) (words : Lcg) (b : Bool) → (b ≡ false → 1 < out) → (k : ℕ) → (stay_of b out a words).0 ≡ Some k → (b ≡ false) × (a < k) × (k < a + out)
stay_is out a words true h k e = absurd (cc)
stay_is out a words false h k e =
    let low : (draw (out - 1) words).0 < out - 1 = draw_below (out - 1) words (let more = h refl in omega (arith, more)) in
    let same : (a + 1) + (draw (out - 1) words).0 ≡ k = cc in
    (refl, omega (arith, same), omega (arith, same, low))

pub stay_fits : (n a : ℕ) (size : StringSize) (words : Lcg) → IsSizeIn n size → (k : ℕ)
    → (drawn_stay size a words).0 ≡ Some k → (a < k) × (k + 1 < a + (size.out + size.kept))
stay_fits n a size words fits k e =
    let kept : (size.kept == 0) ≡ false → 0 < size.kept = λ h. positive size.kept h in
    let r = stay_is size.out a words (size.kept == 0) (λ h. (fits.kept (kept h)).1) k e in
    let one = (fits.kept (kept r.0)).0 in
    (r.1, omega (arith, r.2, one))
  where
    positive : (m : ℕ) → (m == 0) ≡ false → 0 < m
    positive zero h = absurd (cc)
    positive (suc m) h = omega arith

-- ---- the string

pub string_fits : (n p a : ℕ) (size : StringSize) (words : Lcg) → IsSizeIn n size → IsFirstIn (size.out + size.kept) n p a
    → IsStringAt n p (record { first = a; width = size.out + size.kept; stays = (drawn_stay size a words).0 })
string_fits n p a size words fits first = record {
  within = record { to = first.to; stays = λ k e. stay_fits n a size words fits k e };
  from = first.from;
  until = first.until;
}

pub drawn_strings_are_there : (longest n p : ℕ) (words : Lcg) → 1 ≤ longest → p < n → IsStringAt n p (drawn_string longest n p words).0
drawn_strings_are_there longest n p words long place =
    let size = drawn_size longest n words in
    let fits = size_fits longest n words long (omega (arith, place)) in
    let least = fits.some in
    let width = size.0.out + size.0.kept in
    let first = drawn_first width n p size.1 in
    string_fits n p first.0 size.0 first.1 fits (first_fits width n p size.1 (omega (arith, least)) fits.fits place)
