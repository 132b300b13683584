-- Each argument has one vertex, so that there are no more of them than vertices.
use Rattle.std.proofs.Common.{◌≡◌, ◌+◌, ◌-◌, ◌<◌, ◌≤◌, [], ◌∷◌, ◌++◌, map, length, List, ap, ◌∙◌, arith}
use Rattle.std.proofs.lemmas.List.{length-append}
use Rattle.dep_model.specs.declared.vertex.Slot.TheVariants.{Argument}
use Rattle.dep_model.specs.declared.vertex.Vertex.{Vertex}
use Rattle.dep_model.specs.VertexOrder.{in_function}
use Rattle.vertex_layout.specs.Listing.{through, vertices_in, argument_slots}
use Rattle.vertex_layout.proofs.Left.{left_turn, left_done, left_above, told_on}
use Rattle.vertex_layout.proofs.ListingTurns.{arguments_left, arguments_begin, arguments_turn, arguments_end}
use Rattle.vertex_layout.proofs.listing.add_arguments.Goals as goal

pub loop-k-init : goal.loop-k-init
loop-k-init c = record { left = record { joined = ap (λ (xs : List Vertex). c.args.list.now ++ xs) (arguments_begin c.args.f c.args.port c.args.arguments) }; listed = omega arith; few = omega arith }

pub overflow_cast-k : goal.overflow_cast-k
overflow_cast-k c = let few = c.loop-k.invariant.few in omega (arith, few)

pub loop-k-preserved : goal.loop-k-preserved
loop-k-preserved c =
    let l = c.loop-k in
    let f = c.args.f in
    let n = c.args.arguments in
    let grown : c.add.new.self ≡ l.list ++ in_function f (through c.args.port (Argument l.k)) ∷ [] = c.in_ok-add.ensures.added ∙ ap (λ k. l.list ++ in_function f k ∷ []) c.kind_of.ensures in
    let long : length c.add.new.self ≡ length l.list + 1 = ap (λ (xs : List Vertex). length xs) grown ∙ length-append l.list (in_function f (through c.args.port (Argument l.k)) ∷ []) in
    let room : length l.list < 65536 = c.in_ok-add.ensures.few in
    let listed : l.k ≤ length l.list = l.invariant.listed in
    record {
      left = left_turn c.args.list.now (vertices_in f (map (through c.args.port) (argument_slots 0 n)))
          (vertices_in f (through c.args.port (Argument l.k) ∷ [])) (arguments_left f c.args.port n (l.k + 1)) (arguments_left f c.args.port n l.k) l.list c.add.new.self
          (arguments_turn f c.args.port n l.k c.loop-k-test.true) grown l.invariant.left;
      listed = omega (arith, long, listed);
      few = omega (arith, room, listed);
    }

pub returns-in_err-add-clause-above : goal.returns-in_err-add-clause-above
returns-in_err-add-clause-above c =
    let l = c.loop-k in
    let f = c.args.f in
    let n = c.args.arguments in
    let all = vertices_in f (map (through c.args.port) (argument_slots 0 n)) in
    told_on (length c.args.list.now + length all) c.in_err-add.field-0.0 c.from_residual.result c.from_residual.ensures.1
    (left_above c.args.list.now all (vertices_in f (through c.args.port (Argument l.k) ∷ [])) (arguments_left f c.args.port n (l.k + 1)) (arguments_left f c.args.port n l.k) l.list c.in_err-add.field-0.0
    (arguments_turn f c.args.port n l.k c.loop-k-test.true) l.invariant.left c.in_err-add.ensures.above)

pub returns-clause-added : goal.returns-clause-added
returns-clause-added c =
    let l = c.loop-k in
    let f = c.args.f in
    let n = c.args.arguments in
    let none : n - l.k ≡ 0 = let done = c.loop-k-test.false in omega (arith, done) in
    left_done c.args.list.now (vertices_in f (map (through c.args.port) (argument_slots 0 n))) (arguments_left f c.args.port n l.k) l.list (arguments_end f c.args.port n l.k none) l.invariant.left
