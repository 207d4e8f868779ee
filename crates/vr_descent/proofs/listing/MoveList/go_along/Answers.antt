use Rattle.std.proofs.Common.{◌≡◌, ◌∷◌, ◌++◌, subst}
use Rattle.std.specs.Prelude.{MatchOption}
use Rattle.vr_descent.proofs.ListingLemmas.{first_along}
use Rattle.vr_descent.proofs.listing.MoveList.go_along.Goals as goal

pub returns : goal.returns
returns c =
    let left = c.take.new.self ++ c.self.inside.behind in
    subst (λ old. MatchOption c.take.result (left ≡ old) (λ mv. old ≡ mv ∷ left)) c.self.view_is
    (first_along c.self.inside.run c.take.result c.take.new.self c.self.inside.behind c.take.ensures)
