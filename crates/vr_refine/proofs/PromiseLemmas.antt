-- What the status of a reply says of the input, and what its text says.
use Rattle.std.proofs.Common.{◌≡◌, ◌∙◌, ◌≤◌, ◌↔◌, ℕ, true, List, Option, Some, None, Result, Ok, Err, refl, ap, sym, subst, arith, length}
use Rattle.std.specs.Prelude.{[], IsSome, is_none, is_some}
use Rattle.serde_json.specs.Data.{Data}
use Rattle.vr_json.specs.Trees.{text_line}
use Rattle.vr_json.specs.declared.fault.Fault.{Fault}
use Rattle.vr_model.specs.declared.search.Event.{Event}
use Rattle.vr_app.specs.Causes.{HasFault, IsNotJson, IsTooLong}
use Rattle.vr_app.specs.Found.{Found}
use Rattle.vr_app.specs.Input.{input_value, max_input}
use Rattle.vr_app.specs.Reply.{Reply, not_json, reply_to_bytes, reply_to_found, reply_to_json, too_long}
use Rattle.vr_app.specs.Texts.{refused_tree}
use Rattle.vr_app.specs.declared.words.Mode.{Mode}
use Rattle.vr_app.specs.declared.words.Mode.TheVariants as mode
use Rattle.vr_app.proofs.CauseLemmas.{Classifies, done-classifies, fault-classifies, of_input-classifies, undone-classifies}
use Rattle.vr_app.proofs.InputLemmas.{of_input, reply-short}
use Rattle.vr_app.proofs.SolutionLemmas.{found-printed, sound-printed}
use Rattle.vr_given.specs.Givens.{given_of}
use Rattle.vr_given.specs.ListFaults.{fault_of_lists}
use Rattle.vr_given.specs.declared.faults.ListFault.{ListFault}
use Rattle.vr_given.specs.declared.given.Given.{Given}
use Rattle.vr_given.proofs.FaultLemmas.{faultless-valid}
use Rattle.vr_given.proofs.GivenLemmas.{given_ensures}
use Rattle.vr_refine.specs.Causes.{HasFound, HasFoundNone, IsFaultedBy, IsFaulty, IsFoundBy, IsPriceable, IsPricedBy}
use Rattle.vr_refine.specs.Inputs.{priced_of}
use Rattle.vr_refine.specs.Promises.{AsksPrice, IsAskedFor, ReadsInput}
use Rattle.vr_refine.specs.Reply.{reply, reply_in, reply_to_given, reply_to_lists, reply_to_priced, reply_to_tree}
use Rattle.vr_refine.specs.Wishes.{found_of, is_found_by, wish_in}
use Rattle.vr_refine.specs.Words.{is_read, request_of}
use Rattle.vr_refine.specs.declared.inputs.Priced.{Priced}
use Rattle.vr_refine.specs.declared.words.Request.{Request}
use Rattle.vr_refine.specs.declared.words.Request.TheVariants.{Find, Price}
use Rattle.vr_refine.proofs.FoundLemmas.{is-found, sound-found}
use Rattle.vr_refine.proofs.ReadLemmas.{IsSound, priced_ensures}

-- ---- lists that are priced

-- without a fault they are valid
priceable : (it : Priced) → IsSound it → fault_of_lists it.model it.lists ≡ None → IsPriceable it
priceable it sound e = sym (faultless-valid it.model it.lists sound.are_lists) ∙ ap is_none e

-- valid ones have none
not_faulty : (it : Priced) → IsSound it → (fault : ListFault) → fault_of_lists it.model it.lists ≡ Some fault → IsPriceable it → ⊥
not_faulty it sound fault e valid = let k = sym (ap is_none e) ∙ faultless-valid it.model it.lists sound.are_lists ∙ valid in absurd cc

-- which inputs have this status, if they are priced
abbrev pub ClassifiesPriced : List ℕ → ℕ → Type 0
ClassifiesPriced bytes status = Classifies priced_of 9 IsPriceable IsFaulty bytes status

-- the text of a reply by its status, if lists are priced
pub record Prices (bytes : List ℕ) (answer : Reply) : Type 0 where
  pub priced : answer.status ≡ 0 → IsPricedBy bytes answer.text
  pub faulted : answer.status ≡ 9 → IsFaultedBy bytes answer.text

-- so has one of another status
prices_none : (bytes : List ℕ) (answer : Reply) → (answer.status ≡ 0 → ⊥) → (answer.status ≡ 9 → ⊥) → Prices bytes answer
prices_none bytes answer not_0 not_9 = record { priced = λ e. absurd (not_0 e); faulted = λ e. absurd (not_9 e) }

module _ (reports : List Event → List ℕ) (bytes : List ℕ) where
  module _ (d : Data) (short : length bytes ≤ max_input) (some : input_value bytes ≡ Some d) where
    lists-classify : (it : Priced) → priced_of d ≡ Ok it → (o : Option ListFault)
        → fault_of_lists it.model it.lists ≡ o → ClassifiesPriced bytes (reply_to_lists it.model it.lists o).status
    lists-classify it is None e =
        done-classifies priced_of 9 IsPriceable IsFaulty (omega arith) (λ e. absurd (omega arith)) bytes d short
        some it is (priceable it ((priced_ensures d).of_value it is) e) (λ h. let k = subst IsSome e h in absurd cc)
    lists-classify it is (Some fault) e =
        undone-classifies priced_of 9 IsPriceable IsFaulty (omega arith) (λ e. absurd (omega arith)) bytes d
        short some it is (subst IsSome (sym e) refl) (not_faulty it ((priced_ensures d).of_value it is) fault e)

    priced-classify : (m : Result Priced Fault) → priced_of d ≡ m → ClassifiesPriced bytes (reply_to_priced m).status
    priced-classify (Err fault) is = fault-classifies priced_of 9 IsPriceable IsFaulty (omega arith) (λ e. absurd (omega arith)) bytes d short some fault is
    priced-classify (Ok it) is = lists-classify it is (fault_of_lists it.model it.lists) refl

    lists-price : (it : Priced) → priced_of d ≡ Ok it → (o : Option ListFault)
        → fault_of_lists it.model it.lists ≡ o → Prices bytes (reply_to_lists it.model it.lists o)
    lists-price it is None e =
        let sound = (priced_ensures d).of_value it is in
        let valid = priceable it sound e in record {
          priced = λ zero. record {
            it = it;
            is_read = record { short = short; value = d; is_value = some; is_read = is };
            valid = valid;
            prints = found-printed mode.First it.model it.lists sound.well_formed valid (λ first. first ≡ it.lists) refl;
            text_is = refl;
          };
          faulted = λ nine. absurd (omega arith);
        }
    lists-price it is (Some fault) e = record {
      priced = λ zero. absurd (omega arith);
      faulted = λ nine. record {
        it = it;
        fault = fault;
        is_read = record { short = short; value = d; is_value = some; is_read = is };
        is_fault = e;
        text_is = refl;
      };
    }

    priced-price : (m : Result Priced Fault) → priced_of d ≡ m → Prices bytes (reply_to_priced m)
    priced-price (Err fault) is = prices_none bytes _ (λ e. absurd (omega arith)) (λ e. absurd (omega arith))
    priced-price (Ok it) is = lists-price it is (fault_of_lists it.model it.lists) refl

  price-classifies : ClassifiesPriced bytes (reply_to_bytes (reply_to_tree Price reports) bytes).status
  price-classifies = of_input-classifies priced_of 9 IsPriceable IsFaulty (omega arith) (λ e. absurd (omega arith)) bytes (reply_to_tree Price reports)
      (λ d short some. priced-classify d short some (priced_of d) refl)

  price-prices : Prices bytes (reply_to_bytes (reply_to_tree Price reports) bytes)
  price-prices = of_input (reply_to_tree Price reports) bytes (Prices bytes)
      (λ long. prices_none bytes too_long (λ e. absurd (omega arith)) (λ e. absurd (omega arith)))
      (λ short none. prices_none bytes not_json (λ e. absurd (omega arith)) (λ e. absurd (omega arith)))
      (λ d short some. priced-price d short some (priced_of d) refl)

  price-refused : (fault : Fault) → HasFault priced_of bytes fault → (reply_to_bytes (reply_to_tree Price reports) bytes).text ≡ text_line (refused_tree fault)
  price-refused fault r =
      ap (λ answer. answer.text) (reply-short (reply_to_tree Price reports) bytes r.short
      ∙ ap (reply_to_json (reply_to_tree Price reports)) r.is_value ∙ ap reply_to_priced r.is_fault)

-- ---- what is found

-- which inputs have this status, if a solution is asked for
abbrev pub ClassifiesFound : Mode → List ℕ → ℕ → Type 0
ClassifiesFound asked bytes status = Classifies given_of 6 (HasFound asked) (HasFoundNone asked) bytes status

module _ (asked : Mode) (reports : List Event → List ℕ) (bytes : List ℕ) where
  -- a reply of status 0 has the text of a solution
  abbrev FoundWhere : Reply → Type 0
  FoundWhere answer = answer.status ≡ 0 → IsFoundBy asked reports bytes answer.text

  -- whether something is found
  has-found : (given : Given) (o : Option Found) → found_of asked given ≡ o → is_found_by given.model given.routes (wish_in asked given.wish) ≡ is_some o
  has-found given o e = sym (is-found asked given.model given.routes (wish_in asked given.wish)) ∙ ap is_some e

  module _ (d : Data) (short : length bytes ≤ max_input) (some : input_value bytes ≡ Some d) where
    found-classify : (given : Given) → given_of d ≡ Ok given → (o : Option Found) → found_of asked given ≡ o
        → ClassifiesFound asked bytes (reply_to_found asked reports given.model o).status
    found-classify given is None none =
        undone-classifies given_of 6 (HasFound asked) (HasFoundNone asked) (omega arith) (λ e. absurd (omega arith)) bytes
        d short some given is (has-found given None none) (λ h. let k = sym (has-found given None none) ∙ h in absurd cc)
    found-classify given is (Some found) e =
        done-classifies given_of 6 (HasFound asked) (HasFoundNone asked) (omega arith) (λ e. absurd (omega arith)) bytes d short
        some given is (has-found given (Some found) e) (λ h. let k = sym (has-found given (Some found) e) ∙ h in absurd cc)

    given-classify : (m : Result Given Fault) → given_of d ≡ m → ClassifiesFound asked bytes (reply_to_given asked reports m).status
    given-classify (Err fault) is =
        fault-classifies given_of 6 (HasFound asked) (HasFoundNone asked) (omega arith) (λ e. absurd (omega arith)) bytes d short some fault is
    given-classify (Ok given) is = found-classify given is (found_of asked given) refl

    found-found : (given : Given) → given_of d ≡ Ok given → (o : Option Found)
        → found_of asked given ≡ o → FoundWhere (reply_to_found asked reports given.model o)
    found-found given is None none zero = absurd (omega arith)
    found-found given is (Some found) e zero =
        let read = (given_ensures [] d).of_value given is in
        let sound = sound-found given.model read.well_formed given.routes read.are_routes asked (wish_in asked given.wish) found e in record {
          given = given;
          found = found;
          is_read = record { short = short; value = d; is_value = some; is_read = is };
          is_found = e;
          is_sought = sound.is_sought;
          as_given = sound.as_given;
          prints = sound-printed given.model found read.well_formed sound.first_valid sound.sound (λ first. first ≡ found.first) refl;
          text_is = refl;
        }

    given-found : (m : Result Given Fault) → given_of d ≡ m → FoundWhere (reply_to_given asked reports m)
    given-found (Err fault) is zero = absurd (omega arith)
    given-found (Ok given) is zero = found-found given is (found_of asked given) refl zero

  find-classifies : ClassifiesFound asked bytes (reply_to_bytes (reply_to_tree (Find asked) reports) bytes).status
  find-classifies =
      of_input-classifies given_of 6 (HasFound asked) (HasFoundNone asked) (omega arith) (λ e. absurd (omega arith)) bytes (reply_to_tree (Find asked) reports)
      (λ d short some. given-classify d short some (given_of d) refl)

  find-found : FoundWhere (reply_to_bytes (reply_to_tree (Find asked) reports) bytes)
  find-found = of_input (reply_to_tree (Find asked) reports) bytes FoundWhere (λ long zero. absurd (omega arith)) (λ short none zero. absurd (omega arith))
      (λ d short some. given-found d short some (given_of d) refl)

  find-refused : (fault : Fault) → HasFault given_of bytes fault
      → (reply_to_bytes (reply_to_tree (Find asked) reports) bytes).text ≡ text_line (refused_tree fault)
  find-refused fault r =
      ap (λ answer. answer.text) (reply-short (reply_to_tree (Find asked) reports) bytes r.short
      ∙ ap (reply_to_json (reply_to_tree (Find asked) reports)) r.is_value ∙ ap (reply_to_given asked reports) r.is_fault)

-- ---- by the words

module _ (reports : List Event → List ℕ) (words : List (List ℕ)) (bytes : List ℕ) where
  module _ (asks : AsksPrice words) where
    pub words-classify : ClassifiesPriced bytes (reply reports words bytes).status
    words-classify =
        let P : Option Request → Type 0 = λ o. ClassifiesPriced bytes (reply_in reports o bytes).status in
        subst P (sym asks) (price-classifies reports bytes)

    pub words-price : Prices bytes (reply reports words bytes)
    words-price = let P : Option Request → Type 0 = λ o. Prices bytes (reply_in reports o bytes) in subst P (sym asks) (price-prices reports bytes)

    -- a refusal says the fault
    pub words-refused : (fault : Fault) → HasFault priced_of bytes fault → (reply reports words bytes).text ≡ text_line (refused_tree fault)
    words-refused fault r = ap (λ o. (reply_in reports o bytes).text) asks ∙ price-refused reports bytes fault r

  module _ (asked : Mode) (asks : IsAskedFor asked words) where
    pub asked-classify : ClassifiesFound asked bytes (reply reports words bytes).status
    asked-classify =
        let P : Option Request → Type 0 = λ o. ClassifiesFound asked bytes (reply_in reports o bytes).status in
        subst P (sym asks) (find-classifies asked reports bytes)

    pub asked-found : (reply reports words bytes).status ≡ 0 → IsFoundBy asked reports bytes (reply reports words bytes).text
    asked-found =
        let P : Option Request → Type 0 = λ o. FoundWhere asked reports bytes (reply_in reports o bytes) in
        subst P (sym asks) (find-found asked reports bytes)

    pub asked-refused : (fault : Fault) → HasFault given_of bytes fault → (reply reports words bytes).text ≡ text_line (refused_tree fault)
    asked-refused fault r = ap (λ o. (reply_in reports o bytes).text) asks ∙ find-refused asked reports bytes fault r

-- which inputs are too long or no JSON, whatever accepted words ask of them
pub record ClassifiesText (bytes : List ℕ) (status : ℕ) : Type 0 where
  pub too_long : (status ≡ 8) ↔ IsTooLong bytes
  pub not_json : (status ≡ 4) ↔ IsNotJson bytes

pub read-classify : (reports : List Event → List ℕ) (words : List (List ℕ)) (bytes : List ℕ)
    → ReadsInput words → ClassifiesText bytes (reply reports words bytes).status
read-classify reports words bytes h = by (request_of words) h
  where
    by : (o : Option Request) → is_read o ≡ true → ClassifiesText bytes (reply_in reports o bytes).status
    by None h = absurd cc
    by (Some Price) h = let k = price-classifies reports bytes in record { too_long = k.too_long; not_json = k.not_json }
    by (Some (Find asked)) h = let k = find-classifies asked reports bytes in record { too_long = k.too_long; not_json = k.not_json }
