use Rattle.std.proofs.Common.{sym, subst}
use Rattle.vr_balance.specs.Balances.{IsTurnover}
use Rattle.vr_balance.proofs.balance.Balance.bring.Goals as goal

pub returns-then-from-to-clause-within : goal.returns-then-from-to-clause-within
returns-then-from-to-clause-within c lists chain turnover =
    let before = subst (IsTurnover lists) (sym c.self.view_is) turnover in
    record {
      come = c.enter.ensures.within lists chain before.come;
      gone = c.enter.ensures.others_within lists before.gone;
      apart = c.enter.ensures.apart before.apart;
    }
