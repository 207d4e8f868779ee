-- What an input is, for each status of an accepted call, if it has no more bytes than it may.
use Rattle.std.specs.Prelude.{◌≡◌, ℕ, List, Option, Some, None, IsSome, IsTrue, false}
use Rattle.vr_model.specs.routes.Rules.{is_valid}
use Rattle.vr_model.specs.declared.records.Model.{Model}
use Rattle.vr_model.specs.declared.search.Event.{Event}
use Rattle.vr_rules.specs.Placing.{AreBuilt}
use Rattle.vr_json.specs.Trees.{text_line}
use Rattle.vr_app.specs.Causes.{IsReadAs}
use Rattle.vr_app.specs.Found.{Found, found_from, line_of_found}
use Rattle.vr_app.specs.Improved.{limit_of}
use Rattle.vr_app.specs.Reply.{with_reports}
use Rattle.vr_app.specs.Solutions.{PrintsBegun}
use Rattle.vr_app.specs.Texts.{broken_tree}
use Rattle.vr_app.specs.declared.words.Mode.{Mode}
use Rattle.vr_app.specs.declared.words.Mode.TheVariants as mode
use Rattle.vr_given.specs.Begin.{begin_lists, ruin_begin}
use Rattle.vr_given.specs.Givens.{given_of}
use Rattle.vr_given.specs.ListFaults.{fault_of_lists, list_rule_word}
use Rattle.vr_given.specs.declared.faults.ListFault.{ListFault}
use Rattle.vr_given.specs.declared.given.Given.{Given}
use Rattle.vr_given.specs.declared.wishes.Wish.{Wish}
use Rattle.vr_ruin.specs.Answering.{IsSoundRefining}
use Rattle.vr_refine.specs.Inputs.{priced_of}
use Rattle.vr_refine.specs.Wishes.{asked_for, found_of, is_found_by, wish_in}
use Rattle.vr_refine.specs.declared.inputs.Priced.{Priced}

-- ---- to be priced

-- the lists are valid
abbrev pub IsPriceable : Priced → Type 0
IsPriceable it = IsTrue (is_valid it.model it.lists)

-- they break a rule
abbrev pub IsFaulty : Priced → Type 0
IsFaulty it = IsSome (fault_of_lists it.model it.lists)

-- it is a model with valid routes
abbrev pub HasValid : List ℕ → Type 0
HasValid bytes = (it : Priced) × IsReadAs priced_of bytes it × IsPriceable it

-- it is a model with routes that break a rule
abbrev pub HasFaulty : List ℕ → Type 0
HasFaulty bytes = (it : Priced) × IsReadAs priced_of bytes it × IsFaulty it

-- it is a model with valid routes, and the text is the line of these as they are, which a check meets with their cost
pub record IsPricedBy (bytes text : List ℕ) : Type 0 where
  pub it : Priced
  pub is_read : IsReadAs priced_of bytes it
  pub valid : IsPriceable it
  pub prints : PrintsBegun (λ first. first ≡ it.lists) it.model text
  pub text_is : text ≡ line_of_found it.model (found_from mode.First it.model it.lists)

-- it is a model with routes that break this rule first, and the text says it
pub record IsFaultedBy (bytes text : List ℕ) : Type 0 where
  pub it : Priced
  pub fault : ListFault
  pub is_read : IsReadAs priced_of bytes it
  pub is_fault : fault_of_lists it.model it.lists ≡ Some fault
  pub text_is : text
      ≡ text_line (broken_tree (list_rule_word fault.rule) fault.spot.vehicle fault.spot.place)

-- ---- to be searched from

-- something is found
abbrev pub HasFound : Mode → Given → Type 0
HasFound asked given = IsTrue (is_found_by given.model given.routes (wish_in asked given.wish))

-- nothing is found
abbrev pub HasFoundNone : Mode → Given → Type 0
HasFoundNone asked given = is_found_by given.model given.routes (wish_in asked given.wish) ≡ false

-- it is a model from which something is found
abbrev pub Finds : Mode → List ℕ → Type 0
Finds asked bytes = (given : Given) × IsReadAs given_of bytes given × HasFound asked given

-- it is a model from which nothing is found
abbrev pub FindsNone : Mode → List ℕ → Type 0
FindsNone asked bytes = (given : Given) × IsReadAs given_of bytes given × HasFoundNone asked given

-- ruin and recreate began with these lists, which are open. Its answer is the first cheapest of the valid lists that it
-- had, and its first cost is that of the first valid ones. Its tries and solutions are within the limits of the model
pub record IsRefined (model : Model) (routes : Option (List (List ℕ))) (wish : Wish) (found : Found) : Type 0 where
  pub lists : List (List ℕ)
  pub begins : ruin_begin model routes ≡ Some lists
  pub are_built : AreBuilt model lists
  pub sound : IsSoundRefining model lists (limit_of model) (asked_for wish)
      (record { first = found.first; outcome = found.outcome })

-- how it was found: without a wish from the lists with which the model's own search begins, else by ruin and recreate
abbrev pub IsSought : Model → Option (List (List ℕ)) → Option Wish → Found → Type 0
IsSought model routes None found = begin_lists model routes ≡ Some found.first
IsSought model routes (Some wish) found = IsRefined model routes wish found

-- it is a model from which something is found, the first cost being that of given valid routes. The text is the line of
-- the solution that is asked for, and after it the reports of the watchers if these are asked for
pub record IsFoundBy (asked : Mode) (reports : List Event → List ℕ) (bytes text : List ℕ) : Type 0 where
  pub given : Given
  pub found : Found
  pub is_read : IsReadAs given_of bytes given
  pub is_found : found_of asked given ≡ Some found
  pub is_sought : IsSought given.model given.routes (wish_in asked given.wish) found
  pub as_given : (lists : List (List ℕ)) → given.routes ≡ Some lists → IsTrue (is_valid given.model lists)
      → found.first ≡ lists
  pub prints : PrintsBegun (λ first. first ≡ found.first) given.model (line_of_found given.model found)
  pub text_is : text ≡ with_reports asked (line_of_found given.model found) (reports found.outcome.events)
