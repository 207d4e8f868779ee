-- What the marks of the active nodes of routes tell of them.
use Rattle.std.proofs.Common.{◌≡◌, true, false}
use Rattle.std.specs.List.{list_all}
use Rattle.vr_model.specs.routes.Rules.{is_open, is_valid}
use Rattle.vr_routes.specs.Tours.{are_routes_open}
use Rattle.vr_rules.specs.declared.marks.Marked.{Marked}
use Rattle.vr_rules.specs.Placing.{fits_by, is_complete, AreBuilt}
use Rattle.vr_rules.proofs.CompleteLemmas.{groups_close, incomplete-not-valid, is_valid-complete, open_where_routes, valid_where_open}

module _ (of : Marked) where
  -- where a group has too many nodes
  pub closed_by_groups : list_all (fits_by of.marks.now) of.lookups.now.closed.model.now.groups ≡ false
      → is_open of.lookups.now.closed.model.now of.routes.now.lists ≡ false
  closed_by_groups = groups_close of.lookups.now.closed.model.now of.lookups.now.closed.well_formed of.routes.now.lists of.marks.now of.marks_are

  -- where no group has
  pub open_by_routes : list_all (fits_by of.marks.now) of.lookups.now.closed.model.now.groups ≡ true
      → are_routes_open of.lookups.now.closed.model.now of.routes.now.lists ≡ is_open of.lookups.now.closed.model.now of.routes.now.lists
  open_by_routes = open_where_routes of.lookups.now.closed.model.now of.lookups.now.closed.well_formed of.routes.now.lists of.marks.now of.marks_are

  -- where something is missing
  pub invalid_where_incomplete : is_complete of.lookups.now.closed.model.now of.marks.now ≡ false
      → is_valid of.lookups.now.closed.model.now of.routes.now.lists ≡ false
  invalid_where_incomplete =
      incomplete-not-valid of.lookups.now.closed.model.now of.lookups.now.closed.well_formed of.routes.now.lists of.marks.now of.marks_are

  -- where nothing is
  pub valid_where_complete : is_complete of.lookups.now.closed.model.now of.marks.now ≡ true
      → is_open of.lookups.now.closed.model.now of.routes.now.lists ≡ is_valid of.lookups.now.closed.model.now of.routes.now.lists
  valid_where_complete =
      valid_where_open of.lookups.now.closed.model.now of.lookups.now.closed.well_formed of.routes.now.lists of.marks.now of.lists of.marks_are

  -- of open routes
  pub valid_where_built : AreBuilt of.lookups.now.closed.model.now of.routes.now.lists
      → is_complete of.lookups.now.closed.model.now of.marks.now ≡ is_valid of.lookups.now.closed.model.now of.routes.now.lists
  valid_where_built built =
      is_valid-complete of.lookups.now.closed.model.now of.lookups.now.closed.well_formed of.routes.now.lists of.marks.now built of.marks_are
