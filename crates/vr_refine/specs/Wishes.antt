-- What is found from what is given: by the model's own search, or by ruin and recreate if the input wishes that.
use Rattle.std.specs.Prelude.{ℕ, ◌==◌, Bool, false, is_some, List, Option, Some, None, option_map}
use Rattle.vr_model.specs.declared.records.Model.{Model}
use Rattle.vr_app.specs.Found.{Found, found_with}
use Rattle.vr_app.specs.Improved.{limit_of}
use Rattle.vr_app.specs.declared.words.Mode.{Mode}
use Rattle.vr_app.specs.declared.words.Mode.TheVariants as mode
use Rattle.vr_given.specs.Begin.{begin_lists, ruin_begin}
use Rattle.vr_given.specs.declared.given.Given.{Given}
use Rattle.vr_given.specs.declared.wishes.Wish.{Wish}
use Rattle.vr_ruin.specs.Lacking.{lack}
use Rattle.vr_ruin.specs.Refining.{RefineEnd, refined, refined_search}
use Rattle.vr_ruin.specs.declared.wish.Wish.{Wish as Asked}

-- the wish that a mode meets: one that goes on meets any, and `first` meets none
abbrev pub wish_in : Mode → Option Wish → Option Wish
wish_in mode.First wish = None
wish_in mode.Solve wish = wish
wish_in mode.Log wish = wish

-- a wish, as ruin and recreate is asked it
abbrev pub asked_for : Wish → Asked
asked_for wish = record { seed = wish.seed; removed = wish.removed; string = wish.string; heat = wish.heat }

-- how ruin and recreate ends that begins with these lists
abbrev pub ruin_end : Model → Wish → List (List ℕ) → RefineEnd
ruin_end model wish lists = refined_search model lists (limit_of model) (asked_for wish)

-- what is found at such an end
abbrev pub found_at : RefineEnd → Found
found_at rest = record { first = rest.first; outcome = rest.outcome }

-- what ruin and recreate finds that begins with these lists, if there are any; none if its best lists lack something
abbrev pub refined_with : Model → Wish → Option (List (List ℕ)) → Option Found
refined_with model wish None = None
refined_with model wish (Some lists) =
    option_map found_at (refined model lists (limit_of model) (asked_for wish))

-- what is found from given lists, or none: as the mode says if there is no wish, else by ruin and recreate
abbrev pub found_by : Mode → Model → Option (List (List ℕ)) → Option Wish → Option Found
found_by asked model routes None = found_with asked model (begin_lists model routes)
found_by asked model routes (Some wish) = refined_with model wish (ruin_begin model routes)

-- what a mode finds from what is given
abbrev pub found_of : Mode → Given → Option Found
found_of asked given = found_by asked given.model given.routes (wish_in asked given.wish)

-- whether ruin and recreate has an answer: it has lists to begin with, and its best lists lack nothing
abbrev pub is_refined_with : Model → Wish → Option (List (List ℕ)) → Bool
is_refined_with model wish None = false
is_refined_with model wish (Some lists) = lack model (ruin_end model wish lists).outcome.best == 0

-- whether something is found: without a wish, exactly if there are lists to begin with
abbrev pub is_found_by : Model → Option (List (List ℕ)) → Option Wish → Bool
is_found_by model routes None = is_some (begin_lists model routes)
is_found_by model routes (Some wish) = is_refined_with model wish (ruin_begin model routes)
