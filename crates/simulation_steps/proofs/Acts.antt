-- What an act comes to in a program and in its slice.
use Rattle.std.proofs.Common.{◌≡◌, ℕ, ℤ, List, [], ◌∷◌, ◌++◌, length, map, Option, Some, None, Bool, true, false, ◌&&◌, inl, inr, refl, sym, ap, ap₂, ◌∙◌, subst, eq-eqb}
use Rattle.std.specs.Prelude.{nat_le, ◌||◌, ◌==◌, slice_get, option_map, option_and_then}
use Rattle.std.specs.Option.{option_map_or}
use Rattle.std.proofs.lemmas.Bool.{and_parts, false≢true}
use Rattle.c_arith.specs.declared.int_type.IntType.TheVariants.{Int, UChar}
use Rattle.c_arith.specs.declared.operators.BinaryOp.{BinaryOp}
use Rattle.c_arith.specs.IntType.{convert}
use Rattle.c_tree.specs.declared.expr.Expr.{Expr}
use Rattle.c_tree.specs.declared.program.Init.{Init}
use Rattle.c_tree.specs.declared.program.Init.TheVariants as init
use Rattle.c_tree.specs.declared.statement.Amount.{Amount}
use Rattle.c_tree.specs.declared.statement.Amount.TheVariants as amount
use Rattle.c_tree.specs.declared.statement.Target.{Target}
use Rattle.c_tree.specs.declared.statement.Target.TheVariants as target
use Rattle.c_language.specs.declared.expr_type.Base.{Base}
use Rattle.c_language.specs.declared.expr_type.Layer.{Layer}
use Rattle.c_language.specs.declared.expr_type.Layer.TheVariants as layer
use Rattle.c_language.specs.declared.expr_type.ExprType.{ExprType}
use Rattle.c_language.specs.Code.{Act, Begins, Sets, Bumps, Fetches, Writes, Prints, Allocates, Frees, Returns, Tests}
use Rattle.c_language.specs.DeclaredTypes.{integer}
use Rattle.c_language.specs.Names.{names as named_in, any_names, init_names, target_names, size_names, amount_names, value_names, act_names}
use Rattle.c_meaning.specs.declared.value.Place.{Place}
use Rattle.c_meaning.specs.declared.value.Value.{Value}
use Rattle.c_meaning.specs.declared.value.Value.TheVariants.{Number, Null}
use Rattle.c_meaning.specs.Memory.{Block, is_cell, is_allocated, is_whole}
use Rattle.c_meaning.specs.Values.{Types, State, variable_place, type_of, place, eval, eval_all}
use Rattle.c_meaning.specs.Acts.{Store, Request, Made, if_cell, writable, assigned, set_by, begun_by, right_of, bump, bumped, list_stores, all_as, all_cells, storing_all, listed_in, listed, begun_with, given, next_byte, taking, printed_all, asked_count, target_type, next_block, allocated_by, freed_at, as_result, returning, made}
use Rattle.c_meaning.specs.Activations.{received}
use Rattle.c_meaning.proofs.Frames.{get_last}
use Rattle.dep_model.proofs.Membership.{IsIn}
use Rattle.projection.specs.Renumbering.{renamed, renamed_init, renamed_target, renamed_amount}
use Rattle.simulation_places.specs.ProjectedCode.{renamed_act}
use Rattle.run_facts.specs.ReadCells.{value_read, left_read, all_read, maybe_read, init_read, target_read, amount_read, compound_read, act_read, reads_input}
use Rattle.run_facts.proofs.Blocks.{get_more}
use Rattle.simulation.specs.Renaming.{World, Stands, AlikeValue, number, null, pointer, AlikeCell, empty, held, Names}
use Rattle.simulation_steps.proofs.Outcomes.{ComesToo, undefined, comes, AlikeList, nil, cons, AlikePlace, AlikeStore, AlikeMade, world_with, CellsStand, NamesStay, Staying, SameResult, StatesStand}
use Rattle.simulation_steps.proofs.ValuesTogether.{ActsComeTogether}
use Rattle.simulation_steps.proofs.StandingObjects.{then_too, map_too, both_there, place_too, if_too, weaker_too}
use Rattle.simulation_steps.proofs.Operators.{tested_too, converted_too}
use Rattle.simulation_steps.proofs.Values.{Hold, type_alike, values_alike, places_alike, all_alike, each_holds, variable_alike, binary_alike, left_stays, right_stays, first_hold, second_hold}
use Rattle.simulation_steps.proofs.Makings.{same_length, numbers_in_too, IsLike, shown_like, value_shown, put_like, tested_like, printed_like, taking_like, returning_like, freeing_like, assigned_too, list_alike, all_as_too, storing_list, Begins as BeginsLike, allocated_too}

module _ (names : Names) (w : World) (types there : Types) (s t : State) (stand : StatesStand names w types there s t) (cells : CellsStand w s t) where
  abbrev f : ℕ → ℕ
  f = names.variable

  abbrev Holds : List Place → Type 0
  Holds = Hold names w types there s t stand

  abbrev Values : Option Value → Option Value → Type 0
  Values = ComesToo (AlikeValue w)

  abbrev front : (qs rs : List Place) → Holds (qs ++ rs) → Holds qs
  front = first_hold names w types there s t stand

  abbrev back : (qs rs : List Place) → Holds (qs ++ rs) → Holds rs
  back = second_hold names w types there s t stand

  abbrev left_names : (a b : ℕ → Bool) → NamesStay names (λ x. a x || b x) → NamesStay names a
  left_names = left_stays names w types there s t stand

  abbrev right_names : (a b : ℕ → Bool) → NamesStay names (λ x. a x || b x) → NamesStay names b
  right_names = right_stays names w types there s t stand

  value_too : (e : Expr) → Staying names e → Holds (value_read types e s) → Values (eval types e s) (eval there (renamed f e) t)
  value_too e st h = values_alike names w types there s t stand e st h

  -- ---- places that can be written

  cell_too : (q r : Place) → AlikePlace w q r → is_cell s.memory q ≡ true → is_cell t.memory r ≡ true
  cell_too q r e live = subst (λ (z : Place). is_cell t.memory z ≡ true) (sym (place_too w q r e)) (cells q r.block e.stands live)

  writable_too : (o u : Option Place) → ComesToo (AlikePlace w) o u → ComesToo (AlikePlace w) (writable s o) (writable t u)
  writable_too o u h =
      then_too (AlikePlace w) (AlikePlace w) (if_cell s.memory) (if_cell t.memory) o u h (λ q r e. if_too (AlikePlace w) (is_cell s.memory q) (is_cell t.memory r) q r (cell_too q r e) e)

  -- ---- stores, in a world that has grown

  module _ (v : World) (grown : (q r : Place) → AlikePlace w q r → AlikePlace v q r) where
    place_grown : (o u : Option Place) → ComesToo (AlikePlace w) o u → ComesToo (AlikePlace v) (writable s o) (writable t u)
    place_grown o u h = weaker_too (AlikePlace w) (AlikePlace v) (writable s o) (writable t u) grown (writable_too o u h)

    pub set_too : (left : Expr) (a b : Option Value) → Staying names left → Holds (left_read types left s) → ComesToo (AlikeValue v) a b → ComesToo (IsLike v) (set_by types left a s) (set_by there (renamed f left) b t)
    set_too left a b st h e =
        subst (λ k. ComesToo (IsLike v) (set_by types left a s) (assigned k (writable t (place there (renamed f left) t)) b)) (sym (type_alike names w types there s t stand left st)) (assigned_too v (type_of types left) _ _ a b (place_grown _ _ (places_alike names w types there s t stand left st h)) e)

    pub begun_too : (x : ℕ) (a b : Option Value) → names.stays x ≡ true → ComesToo (AlikeValue v) a b → ComesToo (IsLike v) (begun_by types x a s) (begun_by there (f x) b t)
    begun_too x a b st e =
        subst (λ k. ComesToo (IsLike v) (begun_by types x a s) (assigned k (writable t (variable_place (f x) t)) b)) (sym (stand.types_are.variables x st)) (assigned_too v (types.typing.variable x) _ _ a b (place_grown _ _ (variable_alike names w types there s t stand x st)) e)

    pub given_too : (to : Target) (a b : Value) → NamesStay names (target_names to) → Holds (target_read types to s) → AlikeValue v a b → ComesToo (IsLike v) (given types to a s) (given there (renamed_target f to) b t)
    given_too target.None a b st h e = comes (value_shown v a b [] e)
    given_too (target.Place left) a b st h e = set_too left (Some a) (Some b) st h (comes e)
    given_too (target.Declared x) a b st h e = begun_too x (Some a) (Some b) (st x (eq-eqb x x refl)) (comes e)

  same_world : (q r : Place) → AlikePlace w q r → AlikePlace w q r
  same_world q r e = e

  received_too : (to : Target) (o p : Option Value) → NamesStay names (target_names to) → Holds (target_read types to s) → AlikeCell w o p → ComesToo (IsLike w) (received types to o s) (received there (renamed_target f to) p t)
  received_too to o p st h empty = undefined
  received_too to o p st h (held {u = a} {v = b} e) = given_too w same_world to a b st h e

  -- ---- lists

  all_cells_too : (ws xs : List Store) → AlikeList (AlikeStore w) ws xs → all_cells s.memory ws ≡ true → all_cells t.memory xs ≡ true
  all_cells_too ws xs nil h = refl
  all_cells_too ws xs (cons {a = x} {b = y} {as_ = us} {bs = vs} e k) h =
      let parts = and_parts (is_cell s.memory x.place) (all_cells s.memory us) h in
      ap₂ (λ a b. a && b) (cell_too x.place y.place e.place parts.0) (all_cells_too us vs k parts.1)

  stored_too : (n : ℕ) (vs us : List Value) (ws xs : List Store) → AlikeList (AlikeValue w) vs us → AlikeList (AlikeStore w) ws xs → ComesToo (IsLike w) (storing_all s.memory n vs ws) (storing_all t.memory n us xs)
  stored_too n vs us ws xs h k =
      if_too (IsLike w) (nat_le (length vs) n && all_cells s.memory ws) (nat_le (length us) n && all_cells t.memory xs) _ _ (λ e. let parts = and_parts (nat_le (length vs) n) (all_cells s.memory ws) e in ap₂ (λ a b. a && b) (subst (λ i. nat_le i n ≡ true) (same_length (AlikeValue w) vs us h) parts.0) (all_cells_too ws xs k parts.1)) (storing_list w vs us ws xs h k)

  listed_at : (ls : List Layer) (b : Base) (vs us : List Value) (q r : Place) → AlikePlace w q r → AlikeList (AlikeValue w) vs us → ComesToo (IsLike w) (listed_in ls b s.memory vs q) (listed_in ls b t.memory us r)
  listed_at [] b vs us q r e h = undefined
  listed_at (layer.Pointer ∷ ls) b vs us q r e h = undefined
  listed_at (layer.Array n ∷ ls) b vs us q r e h =
      let k : ExprType = record { layers = ls; base = b } in
      then_too (AlikeList (AlikeValue w)) (IsLike w) _ _ (all_as k vs) (all_as k us) (all_as_too w k vs us h) (λ xs ys like. stored_too n xs ys (list_stores q k 0 n xs) (list_stores r k 0 n ys) like (list_alike w q r k 0 n xs ys e like))

  listed_too : (k : ExprType) (o u : Option Place) (a b : Option (List Value)) → ComesToo (AlikePlace w) o u → ComesToo (AlikeList (AlikeValue w)) a b → ComesToo (IsLike w) (listed k s o a) (listed k t u b)
  listed_too k o u a b h e =
      then_too (AlikeList (AlikeValue w)) (IsLike w) _ _ a b e (λ vs us like. then_too (AlikePlace w) (IsLike w) (listed_in k.layers k.base s.memory vs) (listed_in k.layers k.base t.memory us) o u h (λ q r place. listed_at k.layers k.base vs us q r place like))

  each_stays : (es : List Expr) → NamesStay names (any_names es) → (e : Expr) → IsIn es e → Staying names e
  each_stays [] st e i = absurd i
  each_stays (d ∷ es) st e (inl is) = subst (Staying names) is (left_names (named_in d) (any_names es) st)
  each_stays (d ∷ es) st e (inr i) = each_stays es (right_names (named_in d) (any_names es) st) e i

  arguments_too : (es : List Expr) → NamesStay names (any_names es) → Holds (all_read types es s) → ComesToo (AlikeList (AlikeValue w)) (eval_all types es s) (eval_all there (map (renamed f) es) t)
  arguments_too es st h = all_alike names w types there s t stand es (each_stays es st) h

  init_too : (x : ℕ) (i : Init) → names.stays x ≡ true → NamesStay names (init_names i) → Holds (init_read types i s) → ComesToo (IsLike w) (begun_with types x i s) (begun_with there (f x) (renamed_init f i) t)
  init_too x init.None here st h = undefined
  init_too x (init.One e) here st h = begun_too w same_world x _ _ here (value_too e st h)
  init_too x (init.Items es) here st h =
      subst (λ k. ComesToo (IsLike w) (begun_with types x (init.Items es) s) (listed k t (variable_place (f x) t) (eval_all there (map (renamed f) es) t))) (sym (stand.types_are.variables x here)) (listed_too (types.typing.variable x) _ _ _ _ (variable_alike names w types there s t stand x here) (arguments_too es st h))

  -- ---- assignments

  right_too : (op : Option BinaryOp) (left right : Expr) → Staying names left → Staying names right → Holds (compound_read types op left s) → Holds (value_read types right s) → Values (right_of types op left right s) (right_of there op (renamed f left) (renamed f right) t)
  right_too None left right l r h k = value_too right r k
  right_too (Some op) left right l r h k =
      binary_alike names w types there s t stand op (type_of types left) (type_of types right) (type_of there (renamed f left)) (type_of there (renamed f right)) _ _ _ _ (type_alike names w types there s t stand left l) (type_alike names w types there s t stand right r) (value_too left l h) (value_too right r k)

  bumped_too : (left : Expr) (up : Bool) → Staying names left → Holds (value_read types left s) → Values (bumped types left up s) (bumped there (renamed f left) up t)
  bumped_too left up l h =
      binary_alike names w types there s t stand (bump up) (type_of types left) (integer Int) (type_of there (renamed f left)) (integer Int) _ _ _ _ (type_alike names w types there s t stand left l) refl (value_too left l h) (comes number)

  -- ---- malloc and free

  amount_too : (n : Amount) → NamesStay names (amount_names n) → Holds (amount_read types n s) → ComesToo (λ (x y : ℤ). x ≡ y) (asked_count types n s) (asked_count there (renamed_amount f n) t)
  amount_too (amount.Size k) st h = comes refl
  amount_too (amount.CountSize e k) st h = numbers_in_too w _ _ (value_too e (left_names (named_in e) (size_names k) st) h)
  amount_too (amount.SizeCount k e) st h = numbers_in_too w _ _ (value_too e (right_names (size_names k) (named_in e) st) h)
  amount_too (amount.Count e) st h = numbers_in_too w _ _ (value_too e st h)

  target_typed : (to : Target) → NamesStay names (target_names to) → target_type there (renamed_target f to) ≡ target_type types to
  target_typed target.None st = refl
  target_typed (target.Place e) st = ap Some (type_alike names w types there s t stand e st)
  target_typed (target.Declared x) st = ap Some (stand.types_are.variables x (st x (eq-eqb x x refl)))

  abbrev grown : World
  grown = w ++ length s.memory.blocks ∷ []

  place_more : (q r : Place) → AlikePlace w q r → AlikePlace grown q r
  place_more q r e = record { stands = get_more w (length s.memory.blocks ∷ []) r.block q.block e.stands; path_is = e.path_is }

  next_alike : AlikeValue grown (next_block s) (next_block t)
  next_alike = pointer (subst (λ n. slice_get grown n ≡ Some (length s.memory.blocks)) stand.blocks.count_is (get_last w (length s.memory.blocks)))

  heap_too : (to : Target) (n : Amount) → NamesStay names (λ x. target_names to x || amount_names n x) → Holds (target_read types to s ++ amount_read types n s) → ComesToo (BeginsLike grown) (made types (Allocates to n) s) (made there (renamed_act f (Allocates to n)) t)
  heap_too to n st h =
      let into = left_names (target_names to) (amount_names n) st in
      let first = front (target_read types to s) (amount_read types n s) h in
      let second = back (target_read types to s) (amount_read types n s) h in
      subst (λ o. ComesToo (BeginsLike grown) (made types (Allocates to n) s) (allocated_by o (asked_count there (renamed_amount f n) t) (given there (renamed_target f to) (next_block t) t))) (sym (target_typed to into)) (allocated_too grown (target_type types to) _ _ _ _ (amount_too n (right_names (target_names to) (amount_names n) st) second) (given_too grown place_more to (next_block s) (next_block t) into first next_alike))

  live_too : (x y : Bool) → (y ≡ false → x ≡ false) → x ≡ true → y ≡ true
  live_too x true h e = refl
  live_too x false h e = absurd (false≢true (sym (h refl) ∙ e))

  free_too : (b c : ℕ) (whole_ : Bool) → Stands w b c → (option_map_or (λ (k : Block). k.is_live && is_allocated k.kind) (slice_get s.memory.blocks b) false && whole_) ≡ true → (option_map_or (λ (k : Block). k.is_live && is_allocated k.kind) (slice_get t.memory.blocks c) false && whole_) ≡ true
  free_too b c whole_ e h =
      let k = both_there names w s t stand.blocks b c e in
      let first : ((k.block.is_live && is_allocated k.block.kind) && whole_) ≡ true = subst (λ (o : Option Block). (option_map_or (λ (d : Block). d.is_live && is_allocated d.kind) o false && whole_) ≡ true) k.block_is h in
      let outer = and_parts (k.block.is_live && is_allocated k.block.kind) whole_ first in
      let inner = and_parts k.block.is_live (is_allocated k.block.kind) outer.0 in
      let there_ : (k.there.is_live && is_allocated k.there.kind) ≡ true = ap₂ (λ x y. x && y) (live_too k.block.is_live k.there.is_live k.gone inner.0) (ap is_allocated k.kind_is ∙ inner.1) in
      subst (λ (o : Option Block). (option_map_or (λ (d : Block). d.is_live && is_allocated d.kind) o false && whole_) ≡ true) (sym k.there_is) (ap₂ (λ x y. x && y) there_ outer.1)

  freed_too : (v u : Value) → AlikeValue w v u → ComesToo (IsLike w) (freed_at s.memory v) (freed_at t.memory u)
  freed_too v u number = undefined
  freed_too v u null = comes (value_shown w Null Null [] null)
  freed_too v u (pointer {b = b} {c = c} {path = path} {index = i} e) =
      if_too (IsLike w) _ _ _ _ (free_too b c (is_whole path && (i == 0)) e) (freeing_like w b c _ _ e (pointer e))

  -- ---- returns

  as_result_too : (o : Option ExprType) (v u : Value) → AlikeValue w v u → Values (as_result o v) (as_result o u)
  as_result_too None v u e = comes e
  as_result_too (Some k) v u e = converted_too w k v u e

  result_too : (o : Option Expr) → NamesStay names (value_names o) → SameResult types there (Returns o) → Holds (maybe_read types o s) → ComesToo (IsLike w) (made types (Returns o) s) (made there (renamed_act f (Returns o)) t)
  result_too None st same h = comes (shown_like w [] [] [] nil)
  result_too (Some e) st same h =
      subst (λ k. ComesToo (IsLike w) (made types (Returns (Some e)) s) (option_map returning (option_and_then (as_result k) (eval there (renamed f e) t)))) (sym (same e refl)) (map_too (AlikeValue w) (IsLike w) returning returning _ _ (then_too (AlikeValue w) (AlikeValue w) (as_result types.result) (as_result types.result) _ _ (value_too e st h) (as_result_too types.result)) (returning_like w))

  -- ---- acts

  abbrev Acted : Option Made → Option Made → Type 0
  Acted = ComesToo (λ x y. AlikeMade (world_with w (length s.memory.blocks) x.begun) x y)

  like_acted : (x y : Option Made) → ComesToo (IsLike w) x y → Acted x y
  like_acted x y = weaker_too (IsLike w) _ x y (λ a b h. subst (λ (o : Option Request). AlikeMade (world_with w (length s.memory.blocks) o) a b) (sym h.none) h.alike)

  begun_acted : (x y : Option Made) → ComesToo (BeginsLike grown) x y → Acted x y
  begun_acted x y = weaker_too (BeginsLike grown) _ x y (λ a b h. subst (λ (o : Option Request). AlikeMade (world_with w (length s.memory.blocks) o) a b) (sym h.begun_is) h.alike)

  fetched_too : (to : Target) → NamesStay names (target_names to) → Holds (target_read types to s) → s.unread ≡ t.unread → ComesToo (IsLike w) (made types (Fetches to) s) (made there (renamed_act f (Fetches to)) t)
  fetched_too to st h same =
      map_too (IsLike w) (IsLike w) taking taking _ _ (given_too w same_world to (Number (next_byte s.unread)) (Number (next_byte t.unread)) st h (subst (λ bs. AlikeValue w (Number (next_byte s.unread)) (Number (next_byte bs))) same number)) (taking_like w)

  sets_too : (left : Expr) (op : Option BinaryOp) (right : Expr) → NamesStay names (act_names (Sets left op right)) → Holds (act_read types (Sets left op right) s) → ComesToo (IsLike w) (made types (Sets left op right) s) (made there (renamed_act f (Sets left op right)) t)
  sets_too left op right st h =
      let more = compound_read types op left s ++ value_read types right s in
      let rest = back (left_read types left s) more h in
      let l = left_names (named_in left) (named_in right) st in
      let r = right_names (named_in left) (named_in right) st in
      set_too w same_world left _ _ l (front (left_read types left s) more h) (right_too op left right l r (front (compound_read types op left s) (value_read types right s) rest) (back (compound_read types op left s) (value_read types right s) rest))

  pub made_too : (a : Act) → NamesStay names (act_names a) → SameResult types there a → Holds (act_read types a s) → (reads_input a ≡ true → s.unread ≡ t.unread) → Acted (made types a s) (made there (renamed_act f a) t)
  made_too (Begins x i) st same h u =
      like_acted _ _ (init_too x i (left_names (λ y. x == y) (init_names i) st x (eq-eqb x x refl)) (right_names (λ y. x == y) (init_names i) st) h)
  made_too (Sets left op right) st same h u = like_acted _ _ (sets_too left op right st h)
  made_too (Bumps left up) st same h u =
      like_acted _ _ (set_too w same_world left _ _ st (front (left_read types left s) (value_read types left s) h) (bumped_too left up st (back (left_read types left s) (value_read types left s) h)))
  made_too (Fetches to) st same h u = like_acted _ _ (fetched_too to st h (u refl))
  made_too (Writes e) st same h u =
      like_acted _ _ (map_too (AlikeValue w) (IsLike w) _ _ _ _ (value_too e st h) (λ v x like. put_like w _ _ (ap (λ z. convert z UChar) (tested_too w v x like))))
  made_too (Prints format args) st same h u =
      like_acted _ _ (map_too (AlikeList (AlikeValue w)) (IsLike w) (printed_all format) (printed_all format) _ _ (arguments_too args st h) (printed_like w format))
  made_too (Allocates to n) st same h u = begun_acted _ _ (heap_too to n st h)
  made_too (Frees e) st same h u =
      like_acted _ _ (then_too (AlikeValue w) (IsLike w) (freed_at s.memory) (freed_at t.memory) _ _ (value_too e st h) freed_too)
  made_too (Returns o) st same h u = like_acted _ _ (result_too o st same h)
  made_too (Tests e) st same h u =
      like_acted _ _ (map_too (AlikeValue w) (IsLike w) _ _ _ _ (value_too e st h) (tested_like w))

  pub stores_too : (to : Target) (o p : Option Value) → NamesStay names (target_names to) → AlikeCell w o p → Holds (target_read types to s) → ComesToo (AlikeMade w) (received types to o s) (received there (renamed_target f to) p t)
  stores_too to o p st e h = weaker_too (IsLike w) (AlikeMade w) _ _ (λ x y like. like.alike) (received_too to o p st h e)

pub acts_come_together : ActsComeTogether
acts_come_together names w types there s t stand cells = record {
  acts = λ a st same h u. made_too names w types there s t stand cells a st same (each_holds names w types there s t stand (act_read types a s) h) u;
  stores = λ to v u st e h. stores_too names w types there s t stand cells to v u st e (each_holds names w types there s t stand (target_read types to s) h);
}
