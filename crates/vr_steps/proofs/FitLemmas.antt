-- The cumuls before and after which breaks fit.
use Rattle.std.proofs.Common.{◌≡◌, List, [], ◌∷◌, All, ℤ, pos, ◌≤ℤ◌, arith}
use Rattle.std.specs.Int.{int_max, int_min}
use Rattle.std.proofs.lemmas.Int.{ints, clamps}
use Rattle.vr_model.specs.tables.Numbers.{horizon}
use Rattle.vr_model.specs.schedules.Schedules.{no_break}
use Rattle.vr_model.specs.schedules.Levels.{FitBefore, FitAfter}
use Rattle.vr_model.specs.tables.WellFormed.{IsBreak}
use Rattle.vr_model.specs.declared.records.BreakRow.{BreakRow}
use Rattle.vr_steps.specs.declared.chains.Chain.{Chain}
use Rattle.vr_steps.specs.Chains.{chain_limit, total_duration, first_end, CanBeginInTime, IsChainOf}
use Rattle.std.specs.Prelude.{IsTrue, ◌↔◌}
use Rattle.vr_spans.specs.declared.runs.Run.{Run}
use Rattle.vr_spans.specs.Runs.{has, IsLeast}
use Rattle.vr_model.specs.deciding.Testing.{within_is}
use Rattle.vr_steps.specs.Levels.{IsCumuls}
use Rattle.vr_steps.specs.Fits.{IsEarliest, IsLatest}
use Rattle.vr_steps.proofs.ChainLemmas.{HasRoom, durations_from_rows, room_from_chain, chain_from_room, chain_from_starts, starts_from_chain}

-- where all breaks are over, there was time for them from 0 on
total_by_end : (rows : List BreakRow) → All IsBreak rows → total_duration rows ≤ℤ int_max (first_end rows) (pos 0)
total_by_end [] valid = omega (arith, ints, clamps)
total_by_end (r ∷ rs) valid = let row = valid 0 r (omega arith) in omega (arith, ints, clamps, row.from_in_range, row.duration_in_range.at_least)

module _ (rows : List BreakRow) (valid : All IsBreak rows) (x : ℤ) (low : pos 0 ≤ℤ x) (high : x ≤ℤ horizon) where
  pub room_before : FitBefore rows x → HasRoom rows (pos 0) x
  room_before (starts, are, over) =
      room_from_chain rows (pos 0) x (durations_from_rows rows valid) (omega (arith, ints, low)) (omega (arith, ints, high))
      (chain_from_starts rows starts (pos 0) x are
      (λ some. let range = are.in_range 0 some in let row = valid 0 no_break some in omega (arith, ints, range.0, row.from_in_range)) over low)

  pub fit_before : HasRoom rows (pos 0) x → FitBefore rows x
  fit_before room =
      let long = durations_from_rows rows valid in
      let taken = starts_from_chain rows (pos 0) x long (chain_from_room rows (pos 0) x long room) in
      (taken.starts, taken.are, taken.over)

  pub room_after : FitAfter rows x → HasRoom rows x chain_limit
  room_after (starts, are, after) =
      room_from_chain rows x chain_limit (durations_from_rows rows valid) (omega (arith, ints)) (omega (arith, ints))
      (chain_from_starts rows starts x chain_limit are (λ some. after 0 some)
      (λ i lt. let range = are.in_range i lt in let row = valid i no_break lt in
      omega (arith, ints, range.1, row.to_in_range, row.duration_in_range.at_most)) (omega (arith, ints, high)))

  pub fit_after : HasRoom rows x chain_limit → FitAfter rows x
  fit_after room =
      let long = durations_from_rows rows valid in
      let taken = starts_from_chain rows x chain_limit long (chain_from_room rows x chain_limit long room) in
      (taken.starts, taken.are, taken.after)

module _ (rows : List BreakRow) (chain : Chain) (valid : All IsBreak rows) (can : CanBeginInTime rows) (of : IsChainOf rows chain) where
  pub earliest_is : (first : ℤ) → first ≡ int_max chain.first_end (pos 0) → first ≤ℤ horizon → IsEarliest rows first
  earliest_is first is within = record {
    low = omega (arith, ints, clamps, is);
    high = within;
    exact = λ x low high. (
      λ fits. let room = room_before rows valid x low high fits in omega (arith, ints, clamps, is, of.first_end_is, room.over, low),
      λ le. fit_before rows valid x low high (record {
        can_begin = can;
        in_time = omega (arith, ints, of.latest_is, of.small.latest_low);
        room = let n = total_by_end rows valid in omega (arith, ints, clamps, n, is, of.first_end_is, le);
        over = omega (arith, ints, clamps, is, of.first_end_is, le);
      }),
    );
  }

  pub latest_is : (last : ℤ) → last ≡ int_min chain.latest horizon → IsLatest rows last
  latest_is last is = record {
    low = omega (arith, ints, clamps, is, of.small.latest_low);
    high = omega (arith, ints, clamps, is);
    exact = λ x low high. (
      λ fits. let room = room_after rows valid x low high fits in omega (arith, ints, clamps, is, of.latest_is, room.in_time, high),
      λ le. fit_after rows valid x low high (record {
        can_begin = can;
        in_time = omega (arith, ints, clamps, is, of.latest_is, le);
        room = omega (arith, ints, of.total_is, of.small.total_high, high);
        over = omega (arith, ints, of.first_end_is, of.small.end_high);
      }),
    );
  }

-- breaks fit after some number of a set exactly where they fit after the least
pub fit_behind_least : (set : List Run) (rows : List BreakRow) (least last : ℤ) → IsCumuls set
    → IsLeast set least → IsLatest rows last → (least ≤ℤ last) ↔ ((x : ℤ) × IsTrue (has set x) × FitAfter rows x)
fit_behind_least set rows least last cumuls is_least is_latest = (
  λ le. let w = within_is (pos 0) horizon least (cumuls least is_least.among) in (least, is_least.among, (is_latest.exact least w.0 w.1).1 le),
  λ m. let w = within_is (pos 0) horizon m.0 (cumuls m.0 m.1) in let le = (is_latest.exact m.0 w.0 w.1).0 m.2 in
      let low = is_least.least m.0 m.1 in omega (arith, ints, le, low),
)
