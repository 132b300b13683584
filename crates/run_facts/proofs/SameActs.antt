-- What an act comes to depends on no cells but those that it reads.
use Rattle.std.proofs.Common.{◌≡◌, ℕ, List, [], ◌∷◌, ◌++◌, Option, Some, None, Bool, true, refl, ap, ap₂, ◌∙◌}
use Rattle.std.specs.Prelude.{nat_le, length, ◌&&◌, option_map, option_and_then, if◌then◌else◌}
use Rattle.std.proofs.lemmas.List.Elements.{All-contains}
use Rattle.c_arith.specs.declared.int_type.IntType.TheVariants.{Int, UChar}
use Rattle.c_arith.specs.declared.operators.BinaryOp.{BinaryOp}
use Rattle.c_arith.specs.IntType.{convert}
use Rattle.c_tree.specs.declared.expr.Expr.{Expr}
use Rattle.c_tree.specs.declared.program.Init.{Init}
use Rattle.c_tree.specs.declared.program.Init.TheVariants as init
use Rattle.c_tree.specs.declared.statement.Amount.{Amount}
use Rattle.c_tree.specs.declared.statement.Amount.TheVariants as amount
use Rattle.c_tree.specs.declared.statement.Target.{Target}
use Rattle.c_tree.specs.declared.statement.Target.TheVariants as target
use Rattle.c_language.specs.declared.expr_type.Base.{Base}
use Rattle.c_language.specs.declared.expr_type.Layer.{Layer}
use Rattle.c_language.specs.declared.expr_type.Layer.TheVariants as layer
use Rattle.c_language.specs.declared.expr_type.ExprType.{ExprType}
use Rattle.c_language.specs.Code.{Act, Begins, Sets, Bumps, Fetches, Writes, Prints, Allocates, Frees, Returns, Tests}
use Rattle.c_language.specs.DeclaredTypes.{integer}
use Rattle.c_meaning.specs.declared.value.Place.{Place}
use Rattle.c_meaning.specs.declared.value.Value.{Value}
use Rattle.c_meaning.specs.declared.value.Value.TheVariants.{Number, Null, To}
use Rattle.c_meaning.specs.Memory.{read}
use Rattle.c_meaning.specs.Pointers.{start}
use Rattle.c_meaning.specs.Values.{Types, State, whole, variable_place, tested, number_in, type_of, place}
use Rattle.c_meaning.specs.Acts.{Store, shows, writable, assigned, set_by, begun_by, right_of, bump, bumped, list_stores, all_as, storing_all, listed_in, listed, begun_with, given, next_byte, taking, put_out, printed_all, asked_count, target_type, next_block, allocated_by, freed_at, as_result, returning, shown_result, made}
use Rattle.c_meaning.specs.Activations.{received}
use Rattle.dep_model.proofs.Membership.{in_first, in_second, contains_of_in}
use Rattle.run_facts.specs.ReadCells.{value_read, left_read, all_read, maybe_read, init_read, target_read, amount_read, compound_read, act_read, reads_input}
use Rattle.run_facts.specs.SameOutcomes.{SameButCells, HoldSame}
use Rattle.run_facts.specs.Laws.{OutcomesDependOnReads}
use Rattle.run_facts.proofs.SameMemories.{if_cell_same, all_cells_same, free_same, count_same}
use Rattle.run_facts.proofs.SameValues.{Same, binary_same, value_same, place_same, all_same}

module _ (types : Types) (s t : State) (same : SameButCells s t) where
  abbrev Are : List Place → Type 0
  Are = Same types s t same

  front : (qs rs : List Place) → Are (qs ++ rs) → Are qs
  front qs rs h q is = h q (in_first qs rs q is)

  back : (qs rs : List Place) → Are (qs ++ rs) → Are rs
  back qs rs h q is = h q (in_second qs rs q is)

  -- ---- stores

  writable_same : (o u : Option Place) → o ≡ u → writable s o ≡ writable t u
  writable_same None u e = ap (writable t) e
  writable_same (Some q) u e = if_cell_same s.memory t.memory same.structs_are same.blocks_are q ∙ ap (writable t) e

  named_same : (x : ℕ) → variable_place x s ≡ variable_place x t
  named_same x = ap (option_map whole) (same.frames_are x)

  set_same : (left : Expr) (v w : Option Value) → Are (left_read types left s) → v ≡ w → set_by types left v s ≡ set_by types left w t
  set_same left v w h e =
      ap₂ (assigned (type_of types left)) (writable_same (place types left s) (place types left t) (place_same types s t same left h)) e

  begun_same : (x : ℕ) (v w : Option Value) → v ≡ w → begun_by types x v s ≡ begun_by types x w t
  begun_same x v w e = ap₂ (assigned (types.typing.variable x)) (writable_same (variable_place x s) (variable_place x t) (named_same x)) e

  given_same : (to : Target) (v w : Value) → Are (target_read types to s) → v ≡ w → given types to v s ≡ given types to w t
  given_same target.None v w h e = ap (λ u. Some (shows (u ∷ []) [])) e
  given_same (target.Place a) v w h e = set_same a (Some v) (Some w) h (ap Some e)
  given_same (target.Declared x) v w h e = begun_same x (Some v) (Some w) (ap Some e)

  pub received_same : (to : Target) (o : Option Value) → Are (target_read types to s) → received types to o s ≡ received types to o t
  received_same to None h = refl
  received_same to (Some v) h = given_same to v v h refl

  -- ---- lists

  stored_same : (n : ℕ) (vs : List Value) (ws : List Store) → storing_all s.memory n vs ws ≡ storing_all t.memory n vs ws
  stored_same n vs ws =
      ap (λ b. if nat_le (length vs) n && b then Some (record (shows vs []) { stores = ws }) else None) (all_cells_same s.memory t.memory same.structs_are same.blocks_are ws)

  items_same : (n : ℕ) (k : ExprType) (q : Place) (o : Option (List Value)) → option_and_then (λ (ws : List Value). storing_all s.memory n ws (list_stores q k 0 n ws)) o ≡ option_and_then (λ (ws : List Value). storing_all t.memory n ws (list_stores q k 0 n ws)) o
  items_same n k q None = refl
  items_same n k q (Some ws) = stored_same n ws (list_stores q k 0 n ws)

  listed_there : (ls : List Layer) (b : Base) (vs : List Value) (q : Place) → listed_in ls b s.memory vs q ≡ listed_in ls b t.memory vs q
  listed_there [] b vs q = refl
  listed_there (layer.Pointer ∷ ls) b vs q = refl
  listed_there (layer.Array n ∷ ls) b vs q = let k : ExprType = record { layers = ls; base = b } in items_same n k q (all_as k vs)

  listed_at : (ls : List Layer) (b : Base) (vs : List Value) (o u : Option Place) → o ≡ u → option_and_then (listed_in ls b s.memory vs) o ≡ option_and_then (listed_in ls b t.memory vs) u
  listed_at ls b vs None u e = ap (option_and_then (listed_in ls b t.memory vs)) e
  listed_at ls b vs (Some q) u e = listed_there ls b vs q ∙ ap (option_and_then (listed_in ls b t.memory vs)) e

  listed_same : (k : ExprType) (o u : Option Place) (a b : Option (List Value)) → o ≡ u → a ≡ b → listed k s o a ≡ listed k t u b
  listed_same k o u None b e h = ap (listed k t u) h
  listed_same k o u (Some vs) b e h = listed_at k.layers k.base vs o u e ∙ ap (listed k t u) h

  init_same : (x : ℕ) (i : Init) → Are (init_read types i s) → begun_with types x i s ≡ begun_with types x i t
  init_same x init.None h = refl
  init_same x (init.One e) h = begun_same x _ _ (value_same types s t same e h)
  init_same x (init.Items es) h = listed_same (types.typing.variable x) _ _ _ _ (named_same x) (all_same types s t same es h)

  -- ---- assignments

  right_same : (op : Option BinaryOp) (left right : Expr) → Are (compound_read types op left s) → Are (value_read types right s) → right_of types op left right s ≡ right_of types op left right t
  right_same None left right h k = value_same types s t same right k
  right_same (Some op) left right h k =
      binary_same types s t same op (type_of types left) (type_of types right) _ _ _ _ (value_same types s t same left h) (value_same types s t same right k)

  bumped_same : (left : Expr) (up : Bool) → Are (value_read types left s) → bumped types left up s ≡ bumped types left up t
  bumped_same left up h = binary_same types s t same (bump up) (type_of types left) (integer Int) _ _ _ _ (value_same types s t same left h) refl

  -- ---- malloc, free, return

  amount_same : (n : Amount) → Are (amount_read types n s) → asked_count types n s ≡ asked_count types n t
  amount_same (amount.Size k) h = refl
  amount_same (amount.CountSize e k) h = ap (option_and_then number_in) (value_same types s t same e h)
  amount_same (amount.SizeCount k e) h = ap (option_and_then number_in) (value_same types s t same e h)
  amount_same (amount.Count e) h = ap (option_and_then number_in) (value_same types s t same e h)

  next_same : next_block s ≡ next_block t
  next_same = ap (λ n. start (whole n)) (count_same s.memory t.memory same.structs_are same.blocks_are)

  freed_same : (o u : Option Value) → o ≡ u → option_and_then (freed_at s.memory) o ≡ option_and_then (freed_at t.memory) u
  freed_same None u e = ap (option_and_then (freed_at t.memory)) e
  freed_same (Some (Number z)) u e = ap (option_and_then (freed_at t.memory)) e
  freed_same (Some Null) u e = ap (option_and_then (freed_at t.memory)) e
  freed_same (Some (To q)) u e =
      ap (λ b. if b then Some (record (shows (To q ∷ []) []) { freed = Some q.block }) else None) (free_same s.memory t.memory same.structs_are same.blocks_are q) ∙ ap (option_and_then (freed_at t.memory)) e

  result_same : (o : Option Expr) → Are (maybe_read types o s) → shown_result types o s ≡ shown_result types o t
  result_same None h = refl
  result_same (Some e) h = ap (λ v. option_map returning (option_and_then (as_result types.result) v)) (value_same types s t same e h)

  -- ---- acts

  pub made_same : (a : Act) → Are (act_read types a s) → (reads_input a ≡ true → s.unread ≡ t.unread) → made types a s ≡ made types a t
  made_same (Begins x i) h u = init_same x i h
  made_same (Sets left op right) h u =
      let more = compound_read types op left s ++ value_read types right s in
      let rest = back (left_read types left s) more h in
      set_same left _ _ (front (left_read types left s) more h) (right_same op left right (front (compound_read types op left s) (value_read types right s) rest) (back (compound_read types op left s) (value_read types right s) rest))
  made_same (Bumps left up) h u =
      set_same left _ _ (front (left_read types left s) (value_read types left s) h) (bumped_same left up (back (left_read types left s) (value_read types left s) h))
  made_same (Fetches to) h u = ap (option_map taking) (given_same to _ _ h (ap (λ bs. Number (next_byte bs)) (u refl)))
  made_same (Writes e) h u = ap (option_map (λ (v : Value). put_out (convert (tested v) UChar))) (value_same types s t same e h)
  made_same (Prints format args) h u = ap (option_map (printed_all format)) (all_same types s t same args h)
  made_same (Allocates to n) h u =
      let first = front (target_read types to s) (amount_read types n s) h in
      let second = back (target_read types to s) (amount_read types n s) h in
      ap₂ (allocated_by (target_type types to)) (amount_same n second) (given_same to _ _ first next_same)
  made_same (Frees e) h u = freed_same _ _ (value_same types s t same e h)
  made_same (Returns e) h u = result_same e h
  made_same (Tests e) h u = ap (option_map (λ (v : Value). shows (Number (tested v) ∷ []) [])) (value_same types s t same e h)

  -- all of a list, one by one
  each_same : (qs : List Place) → HoldSame s t qs → Are qs
  each_same qs h q is = All-contains (λ (r : Place). read s.memory r ≡ read t.memory r) qs q h (contains_of_in qs q is)

pub outcomes_depend_on_reads : OutcomesDependOnReads
outcomes_depend_on_reads types s t same = record {
  acts = λ a h u. made_same types s t same a (each_same types s t same (act_read types a s) h) u;
  arguments = λ es h. all_same types s t same es (each_same types s t same (all_read types es s) h);
  stores = λ to v h. received_same types s t same to v (each_same types s t same (target_read types to s) h);
}
