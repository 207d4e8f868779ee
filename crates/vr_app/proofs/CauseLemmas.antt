-- What the status of a reply says of the input.
use Rattle.std.proofs.Common.{◌≡◌, ◌∙◌, ◌<◌, ◌≤◌, ◌↔◌, ℕ, List, Option, Some, None, Result, Ok, Err, refl, ap, sym, subst, arith, length, option_map}
use Rattle.std.specs.Prelude.{IsSome, ◌≢◌}
use Rattle.serde_json.specs.Data.{Data}
use Rattle.vr_json.specs.Trees.{text_line}
use Rattle.vr_json.specs.declared.fault.Fault.{Fault}
use Rattle.vr_model.specs.declared.records.Model.{Model}
use Rattle.vr_model.specs.declared.search.Event.{Event}
use Rattle.vr_model.specs.first.FirstSolutions.{first_lists}
use Rattle.vr_app.specs.Causes.{HasFault, IsNotJson, IsReadAs, IsRefusedInput, IsTooLong}
use Rattle.vr_app.specs.Found.{found_from}
use Rattle.vr_app.specs.Input.{max_input, model_of_value, input_value}
use Rattle.vr_app.specs.Reply.{Reply, reply, reply_in, reply_to_bytes, reply_to_found, reply_to_input, reply_to_json, reply_to_model, reply_to_tree}
use Rattle.vr_app.specs.Runs.{IsSolutionAsked}
use Rattle.vr_app.specs.Texts.{refused_tree}
use Rattle.vr_app.specs.declared.words.Mode.{Mode}
use Rattle.vr_app.specs.declared.words.Request.{Request}
use Rattle.vr_app.specs.declared.words.Task.TheVariants as task
use Rattle.vr_app.proofs.InputLemmas.{of_input, reply-short}

-- which inputs have this status, where their values are read so: 0 where what is read has one property, another number
-- where it has the other
pub record Classifies {A : Type 0} (read : Data → Result A Fault) (other : ℕ) (P Q : A → Type 0) (bytes : List ℕ) (status : ℕ) : Type 0 where
  pub too_long : (status ≡ 8) ↔ IsTooLong bytes
  pub not_json : (status ≡ 4) ↔ IsNotJson bytes
  pub refused : (status ≡ 5) ↔ IsRefusedInput read bytes
  pub done : (status ≡ 0) ↔ ((x : A) × IsReadAs read bytes x × P x)
  pub undone : (status ≡ other) ↔ ((x : A) × IsReadAs read bytes x × Q x)

module _ {A : Type 0} (read : Data → Result A Fault) (other : ℕ) (P Q : A → Type 0) (at_least : 6 ≤ other) (not_8 : 8 ≢ other) (bytes : List ℕ) where
  long-classifies : max_input < length bytes → Classifies read other P Q bytes 8
  long-classifies long = record {
    too_long = (λ e. long, λ h. refl);
    not_json = (λ e. absurd (omega arith), λ h. absurd (omega (arith, h.short)));
    refused = (λ e. absurd (omega arith), λ h. absurd (omega (arith, h.1.short)));
    done = (λ e. absurd (omega arith), λ h. absurd (omega (arith, h.1.short)));
    undone = (λ e. absurd (not_8 e), λ h. absurd (omega (arith, h.1.short)));
  }

  no_value-classifies : length bytes ≤ max_input → input_value bytes ≡ None → Classifies read other P Q bytes 4
  no_value-classifies short none = record {
    too_long = (λ e. absurd (omega arith), λ h. absurd (omega arith));
    not_json = (λ e. record { short = short; no_value = none }, λ h. refl);
    refused = (λ e. absurd (omega arith), λ h. let same = sym none ∙ h.1.is_value in absurd cc);
    done = (λ e. absurd (omega arith), λ h. let same = sym none ∙ h.1.is_value in absurd cc);
    undone = (λ e. absurd (omega (arith, e, at_least)), λ h. let same = sym none ∙ h.1.is_value in absurd cc);
  }

  -- of any input, where it is so of those that are JSON
  pub of_input-classifies : (reply : Data → Reply)
      → ((d : Data) → length bytes ≤ max_input → input_value bytes ≡ Some d → Classifies read other P Q bytes (reply d).status)
      → Classifies read other P Q bytes (reply_to_bytes reply bytes).status
  of_input-classifies reply of_tree = of_input reply bytes (λ answer. Classifies read other P Q bytes answer.status) long-classifies no_value-classifies of_tree

  -- of an input whose value this is
  module _ (d : Data) (short : length bytes ≤ max_input) (some : input_value bytes ≡ Some d) where
    same_read : (e : Data) → input_value bytes ≡ Some e → read d ≡ read e
    same_read e q = let same : d ≡ e = let k = sym some ∙ q in cc in ap read same

    only_one : (x y : A) → read d ≡ Ok x → IsReadAs read bytes y → x ≡ y
    only_one x y is h = let both = sym is ∙ same_read h.value h.is_value ∙ h.is_read in cc

    not_both : (x : A) (fault : Fault) → read d ≡ Err fault → IsReadAs read bytes x → ⊥
    not_both x fault is h = let both = sym is ∙ same_read h.value h.is_value ∙ h.is_read in absurd cc

    pub fault-classifies : (fault : Fault) → read d ≡ Err fault → Classifies read other P Q bytes 5
    fault-classifies fault is = record {
      too_long = (λ e. absurd (omega arith), λ h. absurd (omega arith));
      not_json = (λ e. absurd (omega arith), λ h. let same = sym some ∙ h.no_value in absurd cc);
      refused = (λ e. (fault, record { short = short; value = d; is_value = some; is_fault = is }), λ h. refl);
      done = (λ e. absurd (omega arith), λ h. absurd (not_both h.0 fault is h.1));
      undone = (λ e. absurd (omega (arith, e, at_least)), λ h. absurd (not_both h.0 fault is h.1));
    }

    module _ (x : A) (is : read d ≡ Ok x) where
      is-read : IsReadAs read bytes x
      is-read = record { short = short; value = d; is_value = some; is_read = is }

      not_fault : (fault : Fault) → HasFault read bytes fault → ⊥
      not_fault fault k = let both = sym is ∙ same_read k.value k.is_value ∙ k.is_fault in absurd cc

      pub done-classifies : P x → (Q x → ⊥) → Classifies read other P Q bytes 0
      done-classifies p not = record {
        too_long = (λ e. absurd (omega arith), λ h. absurd (omega arith));
        not_json = (λ e. absurd (omega arith), λ h. let same = sym some ∙ h.no_value in absurd cc);
        refused = (λ e. absurd (omega arith), λ h. absurd (not_fault h.0 h.1));
        done = (λ e. (x, is-read, p), λ h. refl);
        undone = (λ e. absurd (omega arith), λ h. absurd (not (subst Q (sym (only_one x h.0 is h.1)) h.2)));
      }

      pub undone-classifies : Q x → (P x → ⊥) → Classifies read other P Q bytes other
      undone-classifies q not = record {
        too_long = (λ e. absurd (not_8 (sym e)), λ h. absurd (omega (arith, h, short)));
        not_json = (λ e. absurd (omega (arith, e, at_least)), λ h. let same = sym some ∙ h.no_value in absurd cc);
        refused = (λ e. absurd (omega (arith, e, at_least)), λ h. absurd (not_fault h.0 h.1));
        done = (λ e. absurd (omega (arith, e, at_least)), λ h. absurd (not (subst P (sym (only_one x h.0 is h.1)) h.2)));
        undone = (λ e. (x, is-read, q), λ h. refl);
      }

-- ---- words that ask for a solution

abbrev pub has_first : Model → Type 0
has_first model = IsSome (first_lists model)

abbrev pub has_no_first : Model → Type 0
has_no_first model = first_lists model ≡ None

-- which inputs have this status, where a solution is asked for
abbrev pub ClassifiesFirst : List ℕ → ℕ → Type 0
ClassifiesFirst bytes status = Classifies model_of_value 6 has_first has_no_first bytes status

module _ (asked : Mode) (reports : List Event → List ℕ) (bytes : List ℕ) where
  module _ (d : Data) (short : length bytes ≤ max_input) (some : input_value bytes ≡ Some d) where
    found-classifies : (model : Model) → model_of_value d ≡ Ok model → (o : Option (List (List ℕ))) → first_lists model ≡ o
        → ClassifiesFirst bytes (reply_to_found asked reports model (option_map (found_from asked model) o)).status
    found-classifies model is None none =
        undone-classifies model_of_value 6 has_first has_no_first (omega arith) (λ e. absurd (omega arith))
        bytes d short some model is none (λ h. let k = subst IsSome none h in absurd cc)
    found-classifies model is (Some lists) first =
        done-classifies model_of_value 6 has_first has_no_first (omega arith) (λ e. absurd (omega arith))
        bytes d short some model is (subst IsSome (sym first) refl) (λ h. let k = sym first ∙ h in absurd cc)

    model-classifies : (m : Result Model Fault) → model_of_value d ≡ m → ClassifiesFirst bytes (reply_to_model asked reports m).status
    model-classifies (Err fault) is =
        fault-classifies model_of_value 6 has_first has_no_first (omega arith) (λ e. absurd (omega arith)) bytes d short some fault is
    model-classifies (Ok model) is = found-classifies model is (first_lists model) refl

  pub input-classifies : ClassifiesFirst bytes (reply_to_input (task.Find asked) reports bytes).status
  input-classifies =
      of_input-classifies model_of_value 6 has_first has_no_first (omega arith) (λ e. absurd (omega arith)) bytes
      (reply_to_tree (task.Find asked) reports) (λ d short some. model-classifies d short some (model_of_value d) refl)

  input-refused : (fault : Fault) → HasFault model_of_value bytes fault → (reply_to_input (task.Find asked) reports bytes).text ≡ text_line (refused_tree fault)
  input-refused fault r =
      ap (λ reply. reply.text) (reply-short (reply_to_tree (task.Find asked) reports) bytes r.short
      ∙ ap (reply_to_json (reply_to_tree (task.Find asked) reports)) r.is_value ∙ ap (reply_to_model asked reports) r.is_fault)

module _ (reports : List Event → List ℕ) (words : List (List ℕ)) (bytes : List ℕ) where
  pub solved-classifies : IsSolutionAsked words → ClassifiesFirst bytes (reply reports words bytes).status
  solved-classifies h =
      let P : Option Request → Type 0 = λ o. ClassifiesFirst bytes (reply_in reports o bytes).status in
      subst P (sym h.1) (input-classifies h.0 reports bytes)

  -- a refusal says the fault
  pub solved-refused : (fault : Fault) → IsSolutionAsked words → HasFault model_of_value bytes fault
      → (reply reports words bytes).text ≡ text_line (refused_tree fault)
  solved-refused fault h r = ap (λ o. (reply_in reports o bytes).text) h.1 ∙ input-refused h.0 reports bytes fault r
