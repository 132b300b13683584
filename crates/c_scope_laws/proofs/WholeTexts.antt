-- Where all is kept, a text without empty blocks is what stays of it.
use Rattle.std.proofs.Common.{◌≡◌, ℕ, suc, List, [], ◌∷◌, map, Bool, true, false, Option, Some, None, refl, sym, ap, subst, ◌∙◌}
use Rattle.std.specs.Prelude.{if◌then◌else◌}
use Rattle.c_tree.specs.declared.raw.expr.RawExpr.{RawExpr}
use Rattle.c_tree.specs.declared.raw.program.RawHead.{RawHead}
use Rattle.c_tree.specs.declared.raw.statement.RawArg.{RawArg}
use Rattle.std.proofs.lemmas.Bool.{and_parts}
use Rattle.c_tree.specs.declared.raw.program.RawInit.{RawInit}
use Rattle.c_tree.specs.declared.raw.program.RawInit.TheVariants as init
use Rattle.c_tree.specs.declared.raw.program.RawParam.{RawParam}
use Rattle.c_tree.specs.declared.raw.program.RawItem.{RawItem}
use Rattle.c_tree.specs.declared.raw.program.RawItem.TheVariants.{Include, Tag, Struct, Global, Prototype, Define}
use Rattle.c_tree.specs.declared.raw.program.RawProgram.{RawProgram}
use Rattle.c_tree.specs.declared.raw.statement.RawTarget.TheVariants as target
use Rattle.c_tree.specs.declared.raw.statement.RawLabel.{RawLabel}
use Rattle.c_tree.specs.declared.raw.statement.RawStatement.{RawStatement, ind-RawStatement, roll-RawStatement, map-RawStatement, fold-roll-RawStatement}
use Rattle.c_tree.specs.declared.raw.statement.RawStatement.TheOpen.{RawStatement-F, RawArm-F}
use Rattle.c_tree.specs.declared.raw.statement.RawStatement.TheVariants as s
use Rattle.c_tree.specs.declared.raw.statement.RawArm.{RawArm, roll-RawArm, map-RawArm, fold-RawArm, fold-roll-RawArm}
use Rattle.c_language.specs.Words.{Bytes}
use Rattle.c_language.specs.Scopes.{Scope, Meaning, Entry, outset, with_parameter, opened, numbered}
use Rattle.c_language.specs.Phrases.{InBlock, Part, Assigns, Bumps, Calls, Allocates, Returns}
use Rattle.c_language.proofs.Tests.{false_true}
use Rattle.c_scope_laws.specs.Thinning.{name_stays, found, EntryStays, NamesStay, LabelsStay, BeginIs, block_after, part_scope, body_scope, after_list, Thins, ThinAll, ThinsPart, ThinArms, heads_of, kept_args, ArgsFit}
use Rattle.c_scope_laws.specs.Agreement.{head_left, GivesAround, ReturnFits}
use Rattle.c_scope_laws.proofs.ChosenLists.{chosen_all}
use Rattle.c_language.specs.CallRules.{head_around}
use Rattle.c_language.specs.Uses.{is_library_function}
use Rattle.projection.specs.Kept.{chosen}
use Rattle.c_scope_laws.specs.ThinTexts.{ParamFits, ParamsFit, ItemsThin, IsThinner, all_kept, is_cons, full_step, full_arm, is_full, full_item}
use Rattle.c_language.specs.StatementGrammar.{arm}
use Rattle.c_language.specs.Lists.{all_true}

any_kept : (o : Option Entry) → EntryStays all_kept o
any_kept None = tt
any_kept (Some e) = by_meaning e.name e.meaning
  where
    by_meaning : (x : Bytes) (m : Meaning) → name_stays all_kept x m ≡ true
    by_meaning x (Meaning.Variable id t) = refl
    by_meaning x Meaning.Function = refl

pub all_stay : {scope : Scope} {part : Part} → NamesStay all_kept scope part
all_stay {scope} = record { names = λ x n. any_kept (found x scope.names); functions = λ x n. refl }

pub labels_stay : (scope : Scope) (labels : List RawLabel) → LabelsStay all_kept scope labels
labels_stay scope labels x n = any_kept (found x scope.names)

begin_kept : (i : RawInit) (n : ℕ) → BeginIs all_kept true i n
begin_kept init.None n = tt
begin_kept (init.One a) n = refl
begin_kept (init.Items all) n = refl

-- a call keeps all its arguments, and a head all its parts
pub all_args : (w : Bytes) (n : ℕ) (args : List RawArg) → kept_args all_kept w n args ≡ args
all_args w n args = by_library (is_library_function w)
  where
    by_library : (b : Bool) → (if b then args else chosen (λ m. true) 0 args) ≡ args
    by_library true = refl
    by_library false = chosen_all (λ m. true) (λ m. refl) 0 args

all_head : (head : RawHead) → head_left (heads_of all_kept) head ≡ head
all_head head = ap (λ (ps : List RawParam). record head { params = ps }) (chosen_all (λ n. true) (λ n. refl) 0 head.params)

pub args_stay : (w : Bytes) (args : List RawArg) (n : ℕ) → ArgsFit all_kept w args n
args_stay w args n strange i within = refl

around_gives : (around : Option RawHead) → GivesAround (heads_of all_kept) around
around_gives None = tt
around_gives (Some h) = refl

return_stays : (around : Option RawHead) (a : Option RawExpr) → ReturnFits (heads_of all_kept) around a
return_stays around None = tt
return_stays around (Some a) = around_gives around

module _ (raw : RawProgram) where
  with_args : {scope : Scope} {x : RawStatement} (form : List RawArg → RawStatement) (w : Bytes) (args : List RawArg) → Thins all_kept raw raw scope x (form (kept_args all_kept w scope.statements args) ∷ []) → Thins all_kept raw raw scope x (form args ∷ [])
  with_args {scope} {x} form w args t = subst (λ (as_ : List RawArg). Thins all_kept raw raw scope x (form as_ ∷ [])) (all_args w scope.statements args) t

  abbrev Whole : RawStatement → Type 0
  Whole x = is_full x ≡ true → (scope : Scope) → Thins all_kept raw raw scope x (x ∷ [])

  abbrev arm_full : RawArm → Bool
  arm_full = fold-RawArm Bool Bool full_step full_arm

  -- an arm whose body stays
  record WholeArm (scope : Scope) (a : RawArm) : Type 0 where
    pub labels : List RawLabel
    pub body : List RawStatement
    pub is : a ≡ arm labels body
    pub stays : ThinAll all_kept raw raw scope body body

  abbrev ArmWhole : RawArm → Type 0
  ArmWhole a = arm_full a ≡ true → (scope : Scope) → WholeArm scope a

  abbrev Statements : Type 0
  Statements = List ((x : RawStatement) × Whole x)

  abbrev bare : Statements → List RawStatement
  bare = map (λ (x : (y : RawStatement) × Whole y). x.0)

  abbrev Arms : Type 0
  Arms = List ((a : RawArm) × ArmWhole a)

  abbrev bare_arms : Arms → List RawArm
  bare_arms = map (λ (x : (y : RawArm) × ArmWhole y). x.0)

  lists : (xs : Statements) → all_true (map is_full (bare xs)) ≡ true → (scope : Scope) → ThinAll all_kept raw raw scope (bare xs) (bare xs)
  lists [] h scope = ThinAll.none
  lists (x ∷ xs) h scope = let p = and_parts (is_full x.0) _ h in ThinAll.more (x.1 p.0 scope) (lists xs p.1 _)

  arms_stay : (xs : Arms) → all_true (map arm_full (bare_arms xs)) ≡ true → (scope : Scope) → ThinArms all_kept raw raw scope (bare_arms xs) (bare_arms xs)
  arms_stay [] h scope = ThinArms.no_arms
  arms_stay (x ∷ xs) h scope =
      let p = and_parts (arm_full x.0) _ h in
      let w = x.1 p.0 scope in
      subst (λ (a : RawArm). ThinArms all_kept raw raw scope (a ∷ bare_arms xs) (a ∷ bare_arms xs)) (sym w.is) (ThinArms.arm_stays (labels_stay scope w.labels) w.stays (arms_stay xs p.1 (after_list raw w.body scope)))

  abbrev Layer : Type 0
  Layer = RawStatement-F ((x : RawStatement) × Whole x) ((a : RawArm) × ArmWhole a)

  abbrev shape : Layer → RawStatement-F RawStatement RawArm
  shape = map-RawStatement ((x : RawStatement) × Whole x) ((a : RawArm) × ArmWhole a) RawStatement RawArm (λ x. x.0) (λ a. a.0)

  at_form : {x y : RawStatement} {scope : Scope} → x ≡ y → Thins all_kept raw raw scope y (y ∷ []) → Thins all_kept raw raw scope x (x ∷ [])
  at_form {scope} h t = subst (λ (z : RawStatement). Thins all_kept raw raw scope z (z ∷ [])) (sym h) t

  block_stays : (l : ℕ) (xs : Statements) → is_cons (map is_full (bare xs)) ≡ true → all_true (map is_full (bare xs)) ≡ true → (scope : Scope) → Thins all_kept raw raw scope (s.Block l (bare xs)) (s.Block l (bare xs) ∷ [])
  block_stays l [] h p scope = false_true h
  block_stays l (x ∷ xs) h p scope = Thins.block (lists (x ∷ xs) p (opened scope))

  of_layer : (y : Layer) → full_step (map-RawStatement RawStatement RawArm Bool Bool is_full arm_full (shape y)) ≡ true → (scope : Scope) → Thins all_kept raw raw scope (roll-RawStatement (shape y)) (roll-RawStatement (shape y) ∷ [])
  of_layer (RawStatement-F.Declare l v i) h scope = at_form (s.rolls-Declare l v i) (Thins.declaration refl (begin_kept i scope.statements) all_stay all_stay)
  of_layer (RawStatement-F.Assign l a op b) h scope = Thins.simple (RawStatement-F.Assign l a op b) (Assigns a op b) refl refl refl tt all_stay
  of_layer (RawStatement-F.Bump l a up before) h scope = Thins.simple (RawStatement-F.Bump l a up before) (Bumps a) refl refl refl tt all_stay
  of_layer (RawStatement-F.Call l target.None w args) h scope =
      with_args (λ (as_ : List RawArg). roll-RawStatement (RawStatement-F.Call l target.None w as_)) w args
      (Thins.simple (RawStatement-F.Call l target.None w args) (Calls InBlock target.None w (kept_args all_kept w scope.statements args)) refl refl refl (tt, args_stay w args scope.statements) all_stay)
  of_layer (RawStatement-F.Call l (target.Place a) w args) h scope =
      with_args (λ (as_ : List RawArg). roll-RawStatement (RawStatement-F.Call l (target.Place a) w as_)) w args
      (Thins.simple (RawStatement-F.Call l (target.Place a) w args) (Calls InBlock (target.Place a) w (kept_args all_kept w scope.statements args)) refl refl refl (record { kept = λ q. refl; gives = λ q. refl }, args_stay w args scope.statements) all_stay)
  of_layer (RawStatement-F.Call l (target.Declared v) w args) h scope =
      at_form (s.rolls-Call l (target.Declared v) w args)
      (with_args (λ (as_ : List RawArg). s.Call l (target.Declared v) w as_) w args (Thins.call (record { kept = λ q. refl; gives = λ q. refl }) (args_stay w args scope.statements) refl refl all_stay all_stay))
  of_layer (RawStatement-F.Heap l target.None cast n) h scope = Thins.simple (RawStatement-F.Heap l target.None cast n) (Allocates target.None cast n) refl refl refl tt all_stay
  of_layer (RawStatement-F.Heap l (target.Place a) cast n) h scope = Thins.simple (RawStatement-F.Heap l (target.Place a) cast n) (Allocates (target.Place a) cast n) refl refl refl tt all_stay
  of_layer (RawStatement-F.Heap l (target.Declared v) cast n) h scope = at_form (s.rolls-Heap l (target.Declared v) cast n) (Thins.heap refl refl all_stay all_stay)
  of_layer (RawStatement-F.If l a b c) h scope =
      let p = and_parts (all_true (map is_full (bare b))) _ h in
      at_form (s.rolls-If l a (bare b) (bare c)) (Thins.conditional refl all_stay (lists b p.0 (opened (numbered scope))) (lists c p.1 (opened (block_after raw (bare b) (numbered scope)))))
  of_layer (RawStatement-F.While l a b) h scope = at_form (s.rolls-While l a (bare b)) (Thins.while_loop refl all_stay (lists b h (opened (numbered scope))))
  of_layer (RawStatement-F.Do l a b) h scope = at_form (s.rolls-Do l a (bare b)) (Thins.do_loop refl all_stay (lists b h (opened (numbered scope))))
  of_layer (RawStatement-F.For l None a None b) h scope = at_form (s.rolls-For l None a None (bare b)) (Thins.for_loop refl all_stay ThinsPart.missing ThinsPart.missing (lists b h (opened (body_scope raw None None scope))))
  of_layer (RawStatement-F.For l None a (Some k) b) h scope =
      let p = and_parts (is_full k.0) _ h in
      at_form (s.rolls-For l None a (Some k.0) (bare b)) (Thins.for_loop refl all_stay ThinsPart.missing (ThinsPart.part_stays (k.1 p.0 (part_scope raw None scope))) (lists b p.1 (opened (body_scope raw None (Some k.0) scope))))
  of_layer (RawStatement-F.For l (Some i) a None b) h scope =
      let p = and_parts (is_full i.0) _ h in
      at_form (s.rolls-For l (Some i.0) a None (bare b)) (Thins.for_loop refl all_stay (ThinsPart.part_stays (i.1 p.0 (opened (numbered scope)))) ThinsPart.missing (lists b p.1 (opened (body_scope raw (Some i.0) None scope))))
  of_layer (RawStatement-F.For l (Some i) a (Some k) b) h scope =
      let p = and_parts (is_full i.0) _ h in
      let q = and_parts (is_full k.0) _ p.1 in
      at_form (s.rolls-For l (Some i.0) a (Some k.0) (bare b))
      (Thins.for_loop refl all_stay (ThinsPart.part_stays (i.1 p.0 (opened (numbered scope)))) (ThinsPart.part_stays (k.1 q.0 (part_scope raw (Some i.0) scope))) (lists b q.1 (opened (body_scope raw (Some i.0) (Some k.0) scope))))
  of_layer (RawStatement-F.Switch l a arms) h scope = at_form (s.rolls-Switch l a (bare_arms arms)) (Thins.switch refl all_stay (arms_stay arms h (opened (numbered scope))))
  of_layer (RawStatement-F.Block l b) h scope =
      let p = and_parts (is_cons (map is_full (bare b))) _ h in at_form (s.rolls-Block l (bare b)) (block_stays l b p.0 p.1 scope)
  of_layer (RawStatement-F.Return l a) h scope = Thins.simple (RawStatement-F.Return l a) (Returns a) refl refl refl (return_stays (head_around raw scope) a) all_stay

  statement_layer : (y : Layer) → Whole (roll-RawStatement (shape y))
  statement_layer y h scope = of_layer y (sym (fold-roll-RawStatement Bool Bool full_step full_arm (shape y)) ∙ h) scope

  abbrev arm_shape : RawArm-F ((x : RawStatement) × Whole x) ((a : RawArm) × ArmWhole a) → RawArm-F RawStatement RawArm
  arm_shape = map-RawArm ((x : RawStatement) × Whole x) ((a : RawArm) × ArmWhole a) RawStatement RawArm (λ x. x.0) (λ a. a.0)

  arm_layer : (y : RawArm-F ((x : RawStatement) × Whole x) ((a : RawArm) × ArmWhole a)) → ArmWhole (roll-RawArm (arm_shape y))
  arm_layer y h scope = record { labels = y.labels; body = bare y.body; is = refl; stays = lists y.body (sym (fold-roll-RawArm Bool Bool full_step full_arm (arm_shape y)) ∙ h) scope }

  statement_whole : (x : RawStatement) → Whole x
  statement_whole = ind-RawStatement Whole ArmWhole (λ x y is. subst (λ z. Whole (roll-RawStatement z)) is (statement_layer y)) (λ x y is. subst (λ z. ArmWhole (roll-RawArm z)) is (arm_layer y))

  body_whole : (xs : List RawStatement) → all_true (map is_full xs) ≡ true → (scope : Scope) → ThinAll all_kept raw raw scope xs xs
  body_whole [] h scope = ThinAll.none
  body_whole (x ∷ xs) h scope = let p = and_parts (is_full x) _ h in ThinAll.more (statement_whole x p.0 scope) (body_whole xs p.1 _)

  pub params_whole : (x : Bytes) (n : ℕ) (ps : List RawParam) (scope : Scope) → ParamsFit all_kept raw x n ps scope
  params_whole x n [] scope = tt
  params_whole x n (p ∷ ps) scope = (by_name p.name, params_whole x (suc n) ps (with_parameter raw p scope))
    where
      by_name : (o : Option Bytes) → ParamFits all_kept true scope p o
      by_name None = tt
      by_name (Some name) = (refl, all_stay)

  items_whole : (xs : List RawItem) → all_true (map full_item xs) ≡ true → (scope : Scope) → ItemsThin all_kept raw raw scope xs xs
  items_whole [] h scope = ItemsThin.none
  items_whole (Include is_stdlib ∷ xs) h scope = ItemsThin.include (items_whole xs h scope)
  items_whole (Tag l w ∷ xs) h scope = ItemsThin.tag (items_whole xs h scope)
  items_whole (Struct l w members ∷ xs) h scope = ItemsThin.structure (λ before m c. all_stay) (items_whole xs h _)
  items_whole (Global l v i is_static ∷ xs) h scope = ItemsThin.global refl all_stay all_stay (items_whole xs h _)
  items_whole (Prototype l head ∷ xs) h scope =
      subst (λ (g : RawHead). ItemsThin all_kept raw raw scope (Prototype l head ∷ xs) (Prototype l g ∷ xs)) (all_head head) (ItemsThin.prototype refl (items_whole xs h _))
  items_whole (Define l head body ∷ xs) h scope =
      let p = and_parts (all_true (map is_full body)) _ h in
      subst (λ (g : RawHead). ItemsThin all_kept raw raw scope (Define l head body ∷ xs) (Define l g body ∷ xs)) (all_head head)
      (ItemsThin.define refl (params_whole head.name 0 head.params _) (body_whole body p.0 _) (λ gives other q. q) (items_whole xs p.1 _))

pub whole : (raw : RawProgram) → all_true (map full_item raw.items) ≡ true → IsThinner all_kept raw raw
whole raw h = record { items = items_whole raw raw.items h outset; main = refl; result = refl }
