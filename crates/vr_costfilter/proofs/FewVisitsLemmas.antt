-- Pieces along which a guide leads, one by one.
use Rattle.std.proofs.Common.{◌≡◌, ◌∙◌, ◌+◌, ◌-◌, ◌<◌, ℕ, Bool, List, drop, length, length-append, take, ap, subst, sym, arith}
use Rattle.std.specs.Prelude.{All, IsTrue, slice_index_or}
use Rattle.vr_model.specs.tables.Tables.{is_visit}
use Rattle.vr_model.specs.declared.records.Model.{Model}
use Rattle.vr_model.specs.routes.Routes.{route}
use Rattle.vr_routes.specs.Pieces.{joined, nodes_of}
use Rattle.vr_routes.specs.declared.pieces.Piece.{Piece}
use Rattle.vr_routes.specs.declared.pieces.Piece.TheVariants.{Chain, Node}
use Rattle.vr_routes.proofs.JoinedPieces.{all_at, joined_next, joined_rest}
use Rattle.vr_costfilter.specs.FewVisits.{in_order, AreFewVisits, ArePiecesOf, IsPieceOf}

-- what is so of all is so of each
pub piece-of : (model : Model) (lists : List (List ℕ)) (pieces : List Piece) → ArePiecesOf model lists pieces
    → (k : ℕ) (other : Piece) → k < length pieces → IsPieceOf model lists (slice_index_or pieces k other)
piece-of model lists pieces are k other low =
    let next = ap length (joined_next lists pieces k other low) in
    let two = length-append (joined lists (take k pieces)) (nodes_of lists (slice_index_or pieces k other)) in
    let all = ap length (joined_rest lists pieces (k + 1)) in
    let rest = length-append (joined lists (take (k + 1) pieces)) (joined lists (drop (k + 1) pieces)) in
    record {
      within = are.within k other low;
      nodes = record {
        few = omega (arith, next, two, all, rest, are.nodes.few);
        visits = all_at (λ node. IsTrue (is_visit model node)) lists pieces k other low are.nodes.visits;
      };
    }

-- the node of a piece is a visit
pub node-visit : {model : Model} {lists : List (List ℕ)} {piece : Piece} {node : ℕ}
    → IsPieceOf model lists piece → piece ≡ Node node → IsTrue (is_visit model node)
node-visit {model} {lists} {piece} {node} are is =
    subst (λ p. All (λ node. IsTrue (is_visit model node)) (nodes_of lists p)) is are.nodes.visits 0 0 (omega arith)

-- the nodes of a piece that is a chain, in the list as it was read
pub chain-is : (lists : List (List ℕ)) {piece : Piece} {v from to : ℕ} {reversed : Bool} {list : List ℕ}
    → piece ≡ Chain v from to reversed → list ≡ route lists v → in_order reversed (take (to - from) (drop from list)) ≡ nodes_of lists piece
chain-is lists {piece} {v} {from} {to} {reversed} {list} is read = ap (λ (l : List ℕ). in_order reversed (take (to - from) (drop from l))) read
    ∙ sym (ap (nodes_of lists) is)

-- the nodes of a chain are few visits, in the list as it was read
pub chain-few : {model : Model} {lists : List (List ℕ)} {piece : Piece} {v from to : ℕ} {reversed : Bool} {list : List ℕ}
    → IsPieceOf model lists piece → piece ≡ Chain v from to reversed → list ≡ route lists v
    → AreFewVisits model (in_order reversed (take (to - from) (drop from list)))
chain-few {model} {lists} {piece} {v} {from} {to} {reversed} {list} are is read =
    subst (λ (l : List ℕ). AreFewVisits model (in_order reversed (take (to - from) (drop from l))))
    (sym read) (subst (λ q. AreFewVisits model (nodes_of lists q)) is are.nodes)
