use Rattle.std.proofs.Common.{◌≡◌, to_z, of_z, w64, refl, rules, arith}
use Rattle.std.specs.Int.{int_min}
use Rattle.std.proofs.lemmas.Int.{ints, clamps}
use Rattle.vr_model.specs.tables.Numbers.{horizon}
use Rattle.vr_steps.proofs.FitLemmas.{room_after, latest_is}
use Rattle.vr_steps.proofs.chains.last.Goals as goal

pub returns-in_err-chain : goal.returns-in_err-chain
returns-in_err-chain c = record {
  some = search rules;
  none = λ none x low high fits. absurd (let e = c.in_err-chain.ensures.some.1 (room_after c.args.rows.now c.requires.rows x low high fits).can_begin in cc);
}

pub returns : goal.returns
returns c =
    let of = c.in_ok-chain.ensures.value in
    let is : to_z w64 (of_z w64 c.min.result) ≡ int_min c.in_ok-chain.chain.latest horizon = omega (arith, ints, clamps, c.min.ensures.value, of.small) in
    record {
      some = latest_is c.args.rows.now c.in_ok-chain.chain c.requires.rows (c.in_ok-chain.ensures.some.0 refl) of _ is;
      none = λ none. absurd (cc);
    }
