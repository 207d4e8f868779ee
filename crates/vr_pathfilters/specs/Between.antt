-- What a change makes of the list of a vehicle.
use Rattle.std.specs.Prelude.{ℕ, List}
use Rattle.vr_model.specs.routes.Routes.{route}
use Rattle.vr_reach.specs.Spliced.{spliced}
use Rattle.vr_pathfilters.specs.declared.new_lists.Between.{Between}

-- the list before
abbrev pub list_before : Between → List ℕ
list_before ends = route ends.routes.now.lists ends.v

-- the list that it becomes
abbrev pub changed_list : Between → List ℕ
changed_list ends = spliced (list_before ends) ends.front ends.behind ends.middle.now
