use Rattle.std.proofs.Common.{ℕ, List, sym, subst}
use Rattle.vr_balance.specs.Balances.{IsTurnover}
use Rattle.vr_balance.proofs.balance.Balance.bring_node.Goals as goal

pub returns-in-None-clause-within : goal.returns-in-None-clause-within
returns-in-None-clause-within c =
    let lists : List (List ℕ) = c.args.routes.now.lists in
    let before = subst (IsTurnover lists) (sym c.self.view_is) c.requires.within in
    record {
      come = c.enter.ensures.within lists tt before.come;
      gone = c.enter.ensures.others_within lists before.gone;
      apart = c.enter.ensures.apart before.apart;
    }
