-- When breaks can be taken one after another.
use Rattle.std.proofs.Common.{◌≡◌, ℕ, zero, suc, ◌-◌, ◌<◌, ◌≤◌, ◌^◌, List, [], ◌∷◌, length, drop, get_or, All, ℤ, pos, neg_ℤ, ◌+ℤ◌, ◌-ℤ◌, ◌≤ℤ◌, refl, ap, ◌∙◌}
use Rattle.std.proofs.Common.{arith}
use Rattle.std.specs.Int.{int_max, int_min}
use Rattle.std.specs.Prelude.{EachIndex}
use Rattle.std.proofs.lemmas.Int.{ints, clamps}
use Rattle.std.proofs.lemmas.List.{drop_more}
use Rattle.vr_model.specs.tables.Numbers.{number_at}
use Rattle.vr_model.specs.schedules.Schedules.{no_break}
use Rattle.vr_model.specs.schedules.Levels.{AreStarts}
use Rattle.vr_model.specs.tables.WellFormed.{IsBreak}
use Rattle.vr_model.specs.declared.records.BreakRow.{BreakRow}
use Rattle.vr_steps.specs.declared.chains.Chain.{Chain}
use Rattle.vr_steps.specs.Chains.{chain_limit, total_duration, latest, first_end, CanBeginInTime, IsChainOf, HasBreakInFront, IsLate}

-- the breaks are taken one after another, none before e, and all are over at x
abbrev pub IsChain : List BreakRow → ℤ → ℤ → Type 0
IsChain [] e x = e ≤ℤ x
IsChain (r ∷ rs) e x = (z : ℤ) × (r.from ≤ℤ z) × (z ≤ℤ r.to) × (e ≤ℤ z) × IsChain rs (z +ℤ r.duration) x

-- no break is shorter than 0
abbrev pub HaveDurations : List BreakRow → Type 0
HaveDurations [] = Unit {0}
HaveDurations (r ∷ rs) = (pos 0 ≤ℤ r.duration) × HaveDurations rs

pub durations_from_rows : (rs : List BreakRow) → All IsBreak rs → HaveDurations rs
durations_from_rows [] h = tt
durations_from_rows (r ∷ rs) h =
    (omega (arith, ints, (h 0 r (omega arith)).duration_in_range.at_least), durations_from_rows rs (λ k d lt. h (suc k) d (omega arith)))

-- what a chain of breaks takes
pub record HasRoom (rs : List BreakRow) (e x : ℤ) : Type 0 where
  pub can_begin : CanBeginInTime rs
  pub in_time : e ≤ℤ latest rs
  pub room : (e +ℤ total_duration rs) ≤ℤ x
  pub over : first_end rs ≤ℤ x

pub room_from_chain : (rs : List BreakRow) (e x : ℤ) → HaveDurations rs → neg_ℤ chain_limit ≤ℤ x → x ≤ℤ chain_limit → IsChain rs e x → HasRoom rs e x
room_from_chain [] e x h low high chain = record { can_begin = tt; in_time = omega (arith, ints); room = omega (arith, ints); over = low }
room_from_chain (r ∷ rs) e x h low high (z, from, to, after, rest) =
    let m = room_from_chain rs (z +ℤ r.duration) x h.1 low high rest in
    record {
      can_begin = (omega (arith, ints, clamps, m.in_time), m.can_begin);
      in_time = omega (arith, ints, clamps, m.in_time);
      room = omega (arith, ints, m.room);
      over = omega (arith, ints, clamps, m.room, m.over);
    }

pub chain_from_room : (rs : List BreakRow) (e x : ℤ) → HaveDurations rs → HasRoom rs e x → IsChain rs e x
chain_from_room [] e x h m = omega (arith, ints, m.room)
chain_from_room (r ∷ rs) e x h m =
    let z = int_max e r.from in (
      z,
      omega (arith, ints, clamps),
      omega (arith, ints, clamps, m.can_begin.0, m.in_time),
      omega (arith, ints, clamps),
      chain_from_room rs (z +ℤ r.duration) x h.1 (record {
        can_begin = m.can_begin.1;
        in_time = omega (arith, ints, clamps, m.can_begin.0, m.in_time);
        room = omega (arith, ints, clamps, m.room, m.over);
        over = omega (arith, ints, clamps, m.over);
      }),
    )

-- a chain takes no time before it begins
pub chain_forward : (rs : List BreakRow) (e x : ℤ) → HaveDurations rs → IsChain rs e x → e ≤ℤ x
chain_forward [] e x h chain = chain
chain_forward (r ∷ rs) e x h (z, from, to, after, rest) = let more = chain_forward rs (z +ℤ r.duration) x h.1 rest in omega (arith, ints, more, after, h.0)

-- break starts make a chain
pub chain_from_starts : (rows : List BreakRow) (starts : List ℤ) (e x : ℤ) → AreStarts rows starts → (0 < length rows → e ≤ℤ number_at starts 0)
    → EachIndex rows (λ i. (number_at starts i +ℤ (get_or rows i no_break).duration) ≤ℤ x) → e ≤ℤ x → IsChain rows e x
chain_from_starts [] starts e x are after over le = le
chain_from_starts (r ∷ rs) [] e x are after over le = absurd (let n = are.one_of_each in omega (arith, n))
chain_from_starts (r ∷ rs) (z ∷ zs) e x are after over le =
    let range = are.in_range 0 (omega arith) in (
      z,
      range.0,
      range.1,
      after (omega arith),
      chain_from_starts rs zs (z +ℤ r.duration) x (record {
        one_of_each = let n = are.one_of_each in omega (arith, n);
        in_range = λ i lt. are.in_range (suc i) (omega arith);
        in_order = λ i lt. are.in_order (suc i) (omega arith);
      }) (λ some. are.in_order 0 (omega arith)) (λ i lt. over (suc i) (omega arith)) (over 0 (omega arith)),
    )

-- the starts of a chain
pub record Starts (rows : List BreakRow) (e x : ℤ) : Type 0 where
  pub starts : List ℤ
  pub are : AreStarts rows starts
  pub after : EachIndex rows (λ i. e ≤ℤ number_at starts i)
  pub over : EachIndex rows (λ i. (number_at starts i +ℤ (get_or rows i no_break).duration) ≤ℤ x)

-- the starts of a chain with one break more in front
starts_before : (r : BreakRow) (rs : List BreakRow) (e x z : ℤ) → r.from ≤ℤ z → z ≤ℤ r.to → e ≤ℤ z
    → pos 0 ≤ℤ r.duration → (z +ℤ r.duration) ≤ℤ x → Starts rs (z +ℤ r.duration) x → Starts (r ∷ rs) e x
starts_before r rs e x z from to after long within more =
    record {
      starts = z ∷ more.starts;
      are = record { one_of_each = ap suc more.are.one_of_each; in_range = in_range; in_order = in_order };
      after = later;
      over = over;
    }
  where
    in_range : EachIndex (r ∷ rs)
        (λ i. ((get_or (r ∷ rs) i no_break).from ≤ℤ number_at (z ∷ more.starts) i) × (number_at (z ∷ more.starts) i ≤ℤ (get_or (r ∷ rs) i no_break).to))
    in_range zero lt = (from, to)
    in_range (suc i) lt = more.are.in_range i (omega arith)

    in_order : (i : ℕ) → suc i < length (r ∷ rs)
        → (number_at (z ∷ more.starts) i +ℤ (get_or (r ∷ rs) i no_break).duration) ≤ℤ number_at (z ∷ more.starts) (suc i)
    in_order zero lt = more.after 0 (omega arith)
    in_order (suc i) lt = more.are.in_order i (omega arith)

    later : EachIndex (r ∷ rs) (λ i. e ≤ℤ number_at (z ∷ more.starts) i)
    later zero lt = after
    later (suc i) lt = let n = more.after i (omega arith) in omega (arith, ints, n, after, long)

    over : EachIndex (r ∷ rs) (λ i. (number_at (z ∷ more.starts) i +ℤ (get_or (r ∷ rs) i no_break).duration) ≤ℤ x)
    over zero lt = within
    over (suc i) lt = more.over i (omega arith)

pub starts_from_chain : (rows : List BreakRow) (e x : ℤ) → HaveDurations rows → IsChain rows e x → Starts rows e x
starts_from_chain [] e x h chain = record {
  starts = [];
  are = record { one_of_each = refl; in_range = λ i lt. absurd (omega arith); in_order = λ i lt. absurd (omega arith) };
  after = λ i lt. absurd (omega arith);
  over = λ i lt. absurd (omega arith);
}
starts_from_chain (r ∷ rs) e x h (z, from, to, after, rest) =
    starts_before r rs e x z from to after h.0 (chain_forward rs (z +ℤ r.duration) x h.1 rest) (starts_from_chain rs (z +ℤ r.duration) x h.1 rest)

-- one break more, from the end
pub drop_before : (rs : List BreakRow) (k : ℕ) (d : BreakRow) → 0 < k → k ≤ length rs → drop (k - 1) rs ≡ get_or rs (k - 1) d ∷ drop k rs
drop_before rs k d some within = drop_more rs (k - 1) d (omega arith) ∙ ap (λ n. get_or rs (k - 1) d ∷ drop n rs) (omega arith)

pub CanBegin-drop : (rs : List BreakRow) (k : ℕ) → CanBeginInTime rs → CanBeginInTime (drop k rs)
CanBegin-drop rs zero h = h
CanBegin-drop [] (suc k) h = tt
CanBegin-drop (r ∷ rs) (suc k) h = CanBegin-drop rs k h.1

pub IsChainOf-after : (row : BreakRow) (rest : List BreakRow) (chain new : Chain) → IsBreak row
    → IsChainOf rest chain → HasBreakInFront row chain new → new.total ≤ℤ pos (2 ^ 39) → IsChainOf (row ∷ rest) new
IsChainOf-after row rest chain new valid m a short =
    let long = valid.duration_in_range in
    record {
      total_is = omega (arith, ints, a.total_is, m.total_is);
      latest_is = a.latest_is ∙ ap (λ n. int_min row.to (n -ℤ row.duration)) m.latest_is;
      first_end_is = omega (arith, ints, clamps, a.first_end_is, m.total_is, m.first_end_is);
      small = record {
        total_low = omega (arith, ints, a.total_is, m.small.total_low, long.at_least);
        total_high = short;
        latest_low = omega (arith, ints, a.in_time, valid.from_in_range);
        latest_high = omega (arith, ints, clamps, a.latest_is, valid.to_in_range);
        end_low = omega (arith, ints, clamps, a.first_end_is, m.small.end_low);
        end_high = omega (arith, ints, clamps, a.first_end_is, m.small, valid.in_order, valid.to_in_range, long.at_most);
      };
    }

pub late_begins : (row : BreakRow) (rest : List BreakRow) (chain : Chain) → IsChainOf rest chain → IsLate row chain → CanBeginInTime (row ∷ rest) → ⊥
late_begins row rest chain m late can = late (omega (arith, ints, clamps, can.0, m.latest_is))
