use Rattle.std.proofs.Common.{sym, subst}
use Rattle.vr_balance.specs.Balances.{IsTurnover}
use Rattle.vr_balance.proofs.ApartLemmas.{apart-other}
use Rattle.vr_balance.proofs.balance.Balance.leave.Goals as goal

pub returns-then-from-to-clause-within : goal.returns-then-from-to-clause-within
returns-then-from-to-clause-within c lists chain turnover =
    let before = subst (IsTurnover lists) (sym c.self.view_is) turnover in
    record {
      come = c.enter.ensures.others_within lists before.come;
      gone = c.enter.ensures.within lists chain before.gone;
      apart = apart-other _ _ (c.enter.ensures.apart (apart-other _ _ before.apart));
    }
