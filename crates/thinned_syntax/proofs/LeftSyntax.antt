-- What is left of a tree that is syntax is syntax.
use Rattle.std.proofs.Common.{◌≡◌, List, [], ◌∷◌, ◌++◌, append-nil, map, Bool, true, false, ◌&&◌, Option, Some, refl, sym, ap, subst, ◌∙◌}
use Rattle.std.specs.Prelude.{bytes_eq}
use Rattle.std.specs.List.{list_all}
use Rattle.std.specs.Option.{option_map_or}
use Rattle.std.proofs.lemmas.Bool.{and_parts, and_from}
use Rattle.c_tree.specs.declared.raw.expr.RawType.{RawType}
use Rattle.c_tree.specs.declared.raw.program.RawInit.TheVariants as init
use Rattle.c_tree.specs.declared.raw.program.RawParam.{RawParam}
use Rattle.c_tree.specs.declared.raw.program.RawHead.{RawHead}
use Rattle.c_tree.specs.declared.raw.program.RawItem.{RawItem}
use Rattle.c_tree.specs.declared.raw.statement.RawTarget.{RawTarget}
use Rattle.c_tree.specs.declared.raw.statement.RawTarget.TheVariants as target
use Rattle.c_tree.specs.declared.raw.statement.RawArg.{RawArg}
use Rattle.c_tree.specs.declared.raw.statement.RawArg.TheVariants.{Value, Literal}
use Rattle.c_tree.specs.declared.raw.statement.RawArm.{RawArm}
use Rattle.c_tree.specs.declared.raw.statement.RawStatement.{RawStatement, map-RawStatement, out-RawStatement, fold_out-RawStatement}
use Rattle.c_tree.specs.declared.raw.statement.RawStatement.TheOpen.{RawStatement-F}
use Rattle.c_language.specs.Words.{Bytes}
use Rattle.c_language.specs.Lists.{all_true}
use Rattle.c_language.specs.Spellings.{is_name, is_own_name}
use Rattle.c_language.specs.StatementGrammar.{arm, is_callee}
use Rattle.c_language.specs.ItemGrammar.{is_some, are_named}
use Rattle.c_language.specs.Syntax.{is_there, is_expr, sized, is_declared, is_begun, is_arg, are_args, is_call, is_heap, is_stored, Position, inner, final, first, step, takes_declaration, takes_compound, is_target, is_label, part_at, stands_step, arm_step, stands, is_arm, is_body, is_param, is_result, is_head, is_item}
use Rattle.c_language.proofs.Tests.{false_true}
use Rattle.text_syntax.proofs.Forms.{are_inner, inner_append, ends_too}
use Rattle.text_syntax.proofs.Equations.{stands-Declare, stands-Call, stands-Heap, stands-If, stands-While, stands-Do, standing_part, stands-For, stands-Switch, stands-Block, is_arm-arm}
use Rattle.thinned_syntax.specs.Left.{AreSome, counted, TargetLeft, IsLeft, AreLeft, PartLeft, ArmsLeft, ResultLeft, HeadLeft, ItemLeft, ItemsLeft}
use Rattle.thinned_syntax.proofs.Counted.{counted_declared}

-- ---- lists of which some stay

pub all_some : {A : Type 0} (f : A → Bool) {xs ys : List A} → AreSome xs ys → list_all f xs ≡ true → list_all f ys ≡ true
all_some f AreSome.none h = h
all_some f (AreSome.taken {x} {xs} k) h = all_some f k (and_parts (f x) (list_all f xs) h).1
all_some f (AreSome.stays {x} {xs} k) h = let p = and_parts (f x) (list_all f xs) h in and_from _ _ p.0 (all_some f k p.1)

-- ---- arguments

plain_arg : (b : Bool) (a : RawArg) → is_arg false a ≡ true → is_arg b a ≡ true
plain_arg b (Value a) h = h
plain_arg b (Literal text) h = false_true h

plain_args : (f : Bytes) (args : List RawArg) → list_all (is_arg false) args ≡ true → are_args f args ≡ true
plain_args f [] h = refl
plain_args f (a ∷ all) h = let p = and_parts (is_arg false a) (list_all (is_arg false) all) h in and_from _ _ (plain_arg (bytes_eq f _) a p.0) p.1

some_args : (f : Bytes) {args some : List RawArg} → AreSome args some → are_args f args ≡ true → are_args f some ≡ true
some_args f AreSome.none h = h
some_args f (AreSome.taken {x} {xs} {ys} k) h = plain_args f ys (all_some (is_arg false) k (and_parts (is_arg _ x) (list_all (is_arg false) xs) h).1)
some_args f (AreSome.stays {x} {xs} k) h = let p = and_parts (is_arg _ x) (list_all (is_arg false) xs) h in and_from _ _ p.0 (all_some (is_arg false) k p.1)

some_call : (f : Bytes) {args some : List RawArg} → AreSome args some → is_call f args ≡ true → is_call f some ≡ true
some_call f {args} k h =
    let p = and_parts (is_name f) _ h in
    let q = and_parts (is_callee f) (are_args f args) p.1 in
    and_from _ _ p.0 (and_from _ _ q.0 (some_args f k q.1))

target_left : (p : Position) {to next : RawTarget} → TargetLeft to next → is_target p to ≡ true → is_target p next ≡ true
target_left p TargetLeft.same h = h
target_left p TargetLeft.dropped h = refl

-- ---- where statements stand

-- before another one, nothing ends the function
abbrev early : Position → Position
early inner = inner
early final = inner
early first = first
early step = step

early_declares : (p : Position) → takes_declaration p ≡ true → takes_declaration (early p) ≡ true
early_declares inner h = h
early_declares final h = refl
early_declares first h = h
early_declares step h = h

-- statements that may stand there, one after another
abbrev at : Position → List RawStatement → Bool
at p [] = true
at p (x ∷ []) = stands x p
at p (x ∷ (y ∷ ys)) = stands x (early p) && at p (y ∷ ys)

at_inner : (xs : List RawStatement) → at inner xs ≡ true → are_inner xs ≡ true
at_inner [] h = refl
at_inner (x ∷ []) h = and_from _ _ h refl
at_inner (x ∷ (y ∷ ys)) h = let p = and_parts (stands x inner) (at inner (y ∷ ys)) h in and_from _ _ p.0 (at_inner (y ∷ ys) p.1)

at_final : (xs : List RawStatement) → at final xs ≡ true → is_body xs ≡ true
at_final [] h = refl
at_final (x ∷ []) h = h
at_final (x ∷ (y ∷ ys)) h = let p = and_parts (stands x inner) (at final (y ∷ ys)) h in and_from _ _ p.0 (at_final (y ∷ ys) p.1)

first_target : (to : RawTarget) → is_target first to ≡ true → is_target inner to ≡ true
first_target target.None h = h
first_target (target.Place a) h = h
first_target (target.Declared v) h = h

first_step : (y : RawStatement-F (Position → Bool) Bool) → stands_step y first ≡ true → stands_step y inner ≡ true
first_step (RawStatement-F.Declare l v i) h = h
first_step (RawStatement-F.Assign l a op b) h = h
first_step (RawStatement-F.Bump l a up before) h = h
first_step (RawStatement-F.Call l to f args) h = let p = and_parts (is_target first to) (is_call f args) h in and_from _ _ (first_target to p.0) p.1
first_step (RawStatement-F.Heap l to cast n) h = let p = and_parts (is_target first to) (is_stored to && is_heap cast n) h in and_from _ _ (first_target to p.0) p.1
first_step (RawStatement-F.If l a b c) h = false_true h
first_step (RawStatement-F.While l a b) h = false_true h
first_step (RawStatement-F.Do l a b) h = false_true h
first_step (RawStatement-F.For l i a k b) h = false_true h
first_step (RawStatement-F.Switch l a arms) h = false_true h
first_step (RawStatement-F.Block l b) h = false_true h
first_step (RawStatement-F.Return l a) h = false_true h

-- what may begin a for may stand in a list
first_inner : (x : RawStatement) → stands x first ≡ true → stands x inner ≡ true
first_inner x h =
    let y = map-RawStatement RawStatement RawArm (Position → Bool) Bool stands is_arm (out-RawStatement x) in
    let e : (p : Position) → stands x p ≡ stands_step y p = λ p. ap (λ (f : Position → Bool). f p) (fold_out-RawStatement (Position → Bool) Bool stands_step arm_step x) in
    e inner ∙ first_step y (sym (e first) ∙ h)

-- and where a for may stand
first_there : (p : Position) (x : RawStatement) → takes_compound p ≡ true → stands x first ≡ true → stands x p ≡ true
first_there inner x t h = first_inner x h
first_there final x t h = ends_too x (first_inner x h)
first_there first x t h = h
first_there step x t h = false_true t

-- ---- bodies

inner_body : (xs ys : List RawStatement) → are_inner xs ≡ true → is_body ys ≡ true → is_body (xs ++ ys) ≡ true
inner_body [] ys h k = k
inner_body (x ∷ []) [] h k = ends_too x (and_parts (stands x inner) true h).0
inner_body (x ∷ []) (y ∷ ys) h k = and_from _ _ (and_parts (stands x inner) true h).0 k
inner_body (x ∷ (z ∷ zs)) ys h k = let p = and_parts (stands x inner) (are_inner (z ∷ zs)) h in and_from _ _ p.0 (inner_body (z ∷ zs) ys p.1 k)

-- ---- statements

mutual
  statement_left : {x : RawStatement} {some : List RawStatement} → IsLeft x some → (p : Position) → stands x p ≡ true → at p some ≡ true
  statement_left IsLeft.gone p h = refl
  statement_left IsLeft.same p h = h
  statement_left (IsLeft.bare {l} {v} {i} n k) p h =
      let q = and_parts (takes_declaration p) (is_begun v i) (sym (stands-Declare l v i p) ∙ h) in
      stands-Declare l (counted n v) init.None p ∙ and_from _ _ q.0 (counted_declared n v i k q.1)
  statement_left (IsLeft.call {l} {to} {next} {f} {args} {some} t k) p h =
      let q = and_parts (is_target p to) (is_call f args) (sym (stands-Call l to f args p) ∙ h) in
      stands-Call l next f some p ∙ and_from _ _ (target_left p t q.0) (some_call f k q.1)
  statement_left (IsLeft.apart {l} {v} {f} {args} {some} k) p h =
      let q = and_parts (is_target p (target.Declared v)) (is_call f args) (sym (stands-Call l (target.Declared v) f args p) ∙ h) in
      let d = and_parts (takes_declaration p) (is_declared v sized) q.0 in
      and_from _ _ (stands-Declare l v init.None (early p) ∙ and_from _ _ (early_declares p d.0) d.1) (stands-Call l target.None f some p ∙ some_call f k q.1)
  statement_left (IsLeft.uncalled {l} {v} {f} {args}) p h =
      let q = and_parts (is_target p (target.Declared v)) (is_call f args) (sym (stands-Call l (target.Declared v) f args p) ∙ h) in
      stands-Declare l v init.None p ∙ q.0
  statement_left (IsLeft.unallocated {l} {v} {cast} {n}) p h =
      let q = and_parts (is_target p (target.Declared v)) _ (sym (stands-Heap l (target.Declared v) cast n p) ∙ h) in
      stands-Declare l v init.None p ∙ q.0
  statement_left (IsLeft.conditional {l} {a} {b} {c} {d} {e} j k) p h =
      let q = and_parts (takes_compound p) _ (sym (stands-If l a b c p) ∙ h) in
      let i = and_parts (is_expr a) _ q.1 in
      let g = and_parts (are_inner b) (are_inner c) i.1 in
      stands-If l a d e p ∙ and_from _ _ q.0 (and_from _ _ i.0 (and_from _ _ (list_left j g.0) (list_left k g.1)))
  statement_left (IsLeft.while_loop {l} {a} {b} {d} j) p h =
      let q = and_parts (takes_compound p) _ (sym (stands-While l a b p) ∙ h) in
      let i = and_parts (is_expr a) _ q.1 in
      stands-While l a d p ∙ and_from _ _ q.0 (and_from _ _ i.0 (list_left j i.1))
  statement_left (IsLeft.do_loop {l} {a} {b} {d} j) p h =
      let q = and_parts (takes_compound p) _ (sym (stands-Do l a b p) ∙ h) in
      let i = and_parts (is_expr a) _ q.1 in
      stands-Do l a d p ∙ and_from _ _ q.0 (and_from _ _ i.0 (list_left j i.1))
  statement_left (IsLeft.for_loop {l} {i} {j} {a} {k} {m} {b} {d} u v w) p h =
      let q = and_parts (takes_compound p) _ (sym (stands-For l i a k b p) ∙ h) in
      let g = and_parts (part_at first (standing_part i)) _ q.1 in
      let t = and_parts (is_expr a) _ g.1 in
      let e = and_parts (part_at step (standing_part k)) _ t.1 in
      stands-For l j a m d p ∙ and_from _ _ q.0 (and_from _ _ (part_left first u g.0) (and_from _ _ t.0 (and_from _ _ (part_left step v e.0) (list_left w e.1))))
  statement_left (IsLeft.switch {l} {a} {arms} {some} j) p h =
      let q = and_parts (takes_compound p) _ (sym (stands-Switch l a arms p) ∙ h) in
      let i = and_parts (is_expr a) _ q.1 in
      stands-Switch l a some p ∙ and_from _ _ q.0 (and_from _ _ i.0 (arms_left j i.1))
  statement_left (IsLeft.block {l} {b} {d} j) p h =
      let q = and_parts (takes_compound p) _ (sym (stands-Block l b p) ∙ h) in
      stands-Block l d p ∙ and_from _ _ q.0 (list_left j q.1)
  statement_left (IsLeft.beginning {l} {i} {x} {a} k b j) p h =
      let q = and_parts (takes_compound p) _ (sym (stands-For l (Some i) a k b p) ∙ h) in
      first_there p x q.0 (statement_left j first (and_parts (stands i first) _ q.1).0)
  statement_left (IsLeft.block_beginning {l} {i} {x} {a} k b j) p h =
      let q = and_parts (takes_compound p) _ (sym (stands-For l (Some i) a k b p) ∙ h) in
      stands-Block l (x ∷ []) p ∙ and_from _ _ q.0 (and_from _ _ (first_inner x (statement_left j first (and_parts (stands i first) _ q.1).0)) refl)

  list_left : {xs some : List RawStatement} → AreLeft xs some → are_inner xs ≡ true → are_inner some ≡ true
  list_left AreLeft.none h = refl
  list_left (AreLeft.more {x} {xs} {some} {others} j k) h =
      let p = and_parts (stands x inner) (are_inner xs) h in
      inner_append some others (at_inner some (statement_left j inner p.0)) (list_left k p.1)

  part_left : (p : Position) {i j : Option RawStatement} → PartLeft i j → part_at p (standing_part i) ≡ true → part_at p (standing_part j) ≡ true
  part_left p PartLeft.no_part h = refl
  part_left p (PartLeft.part j) h = statement_left j p h

  arms_left : {arms some : List RawArm} → ArmsLeft arms some → all_true (map is_arm arms) ≡ true → all_true (map is_arm some) ≡ true
  arms_left ArmsLeft.no_arms h = refl
  arms_left (ArmsLeft.arm_gone {x} {arms} k) h = arms_left k (and_parts (is_arm x) (all_true (map is_arm arms)) h).1
  arms_left (ArmsLeft.arm_stays {labels} {body} {d} {arms} j k) h =
      let p = and_parts (is_arm (arm labels body)) (all_true (map is_arm arms)) h in
      let q = and_parts (is_there labels) _ (sym (is_arm-arm labels body) ∙ p.0) in
      let i = and_parts (list_all is_label labels) (are_inner body) q.1 in
      and_from _ _ (is_arm-arm labels d ∙ and_from _ _ q.0 (and_from _ _ i.0 (list_left j i.1))) (arms_left k p.1)

body_left : {xs some : List RawStatement} → AreLeft xs some → is_body xs ≡ true → is_body some ≡ true
body_left AreLeft.none h = refl
body_left (AreLeft.more {x} {xs = []} {some} j AreLeft.none) h = subst (λ (ys : List RawStatement). is_body ys ≡ true) (sym (append-nil some)) (at_final some (statement_left j final h))
body_left (AreLeft.more {x} {xs = y ∷ ys} {some} {others} j k) h =
    let p = and_parts (stands x inner) (is_body (y ∷ ys)) h in
    inner_body some others (at_inner some (statement_left j inner p.0)) (body_left k p.1)

-- ---- items

result_left : {t u : Option RawType} → ResultLeft t u → option_map_or is_result t true ≡ true → option_map_or is_result u true ≡ true
result_left ResultLeft.same h = h
result_left ResultLeft.dropped h = refl

head_left : {h g : RawHead} → HeadLeft h g → is_head h ≡ true → is_head g ≡ true
head_left {h} {g} k is =
    let p = and_parts (is_own_name h.name) _ is in
    let q = and_parts (option_map_or is_result h.result true) (list_all is_param h.params) p.1 in
    and_from _ _ (ap is_own_name k.name ∙ p.0) (and_from _ _ (result_left k.result q.0) (all_some is_param k.params q.1))

item_left : {x : RawItem} {some : List RawItem} → ItemLeft x some → is_item x ≡ true → list_all is_item some ≡ true
item_left ItemLeft.gone h = refl
item_left ItemLeft.same h = and_from _ _ h refl
item_left (ItemLeft.bare {v} {i} n k) h = and_from _ _ (counted_declared n v i k h) refl
item_left (ItemLeft.prototype k) h = and_from _ _ (head_left k h) refl
item_left (ItemLeft.definition {h = f} {g} {b} {d} k j) h =
    let p = and_parts (is_head f) _ h in
    let q = and_parts (are_named f.params) (is_body b) p.1 in
    and_from _ _ (and_from _ _ (head_left k p.0) (and_from _ _ (all_some (λ (p : RawParam). is_some p.name) k.params q.0) (body_left j q.1))) refl

items_append : (xs ys : List RawItem) → list_all is_item xs ≡ true → list_all is_item ys ≡ true → list_all is_item (xs ++ ys) ≡ true
items_append [] ys h k = k
items_append (x ∷ xs) ys h k = let p = and_parts (is_item x) (list_all is_item xs) h in and_from _ _ p.0 (items_append xs ys p.1 k)

-- what is left of items that are syntax is syntax
pub items_left : {xs some : List RawItem} → ItemsLeft xs some → list_all is_item xs ≡ true → list_all is_item some ≡ true
items_left ItemsLeft.none h = refl
items_left (ItemsLeft.more {x} {xs} {some} {others} j k) h =
    let p = and_parts (is_item x) (list_all is_item xs) h in
    items_append some others (item_left j p.0) (items_left k p.1)
