-- What is kept of the statements of a function has what it needs, form by form.
use Rattle.std.proofs.Common.{◌≡◌, ℕ, zero, suc, Bool, true, false, ◌&&◌, ◌||◌, List, [], ◌∷◌, ◌++◌, map, Option, Some, None, option_map, option_and_then, refl, sym, ap, ap₂, subst, ◌∙◌, arith}
use Rattle.std.specs.Prelude.{Contains}
use Rattle.std.specs.List.{list_all}
use Rattle.std.proofs.lemmas.Bool.{and_parts, or_parts}
use Rattle.c_arith.specs.declared.int_type.IntType.{IntType}
use Rattle.c_tree.specs.declared.expr.Expr.{Expr}
use Rattle.c_tree.specs.declared.raw.expr.RawExpr.{RawExpr}
use Rattle.c_tree.specs.declared.raw.program.RawProgram.{RawProgram}
use Rattle.c_tree.specs.declared.raw.statement.RawArm.{RawArm, roll-RawArm, map-RawArm, fold-roll-RawArm}
use Rattle.c_tree.specs.declared.raw.statement.RawLabel.{RawLabel}
use Rattle.c_tree.specs.declared.raw.statement.RawLabel.TheVariants as label
use Rattle.c_tree.specs.declared.raw.statement.RawStatement.{RawStatement, ind-RawStatement, roll-RawStatement, map-RawStatement, fold-roll-RawStatement}
use Rattle.c_tree.specs.declared.raw.statement.RawStatement.TheOpen.{RawStatement-F, RawArm-F}
use Rattle.c_tree.specs.declared.statement.Arm.{Arm}
use Rattle.c_tree.specs.declared.statement.Label.{Label}
use Rattle.c_tree.specs.declared.statement.Statement.{Statement, map-Statement}
use Rattle.c_tree.specs.declared.statement.Statement.TheOpen.{Statement-F}
use Rattle.c_tree.specs.declared.statement.Statement.TheVariants as s
use Rattle.c_language.specs.Words.{Bytes}
use Rattle.c_language.specs.Code.{Tests as TestsAct}
use Rattle.c_language.specs.ConstantEvaluation.{both}
use Rattle.c_language.specs.Lists.{all_true}
use Rattle.c_language.specs.Names.{names}
use Rattle.c_language.specs.Phrases.{Stand, InBlock, InArm, InFor, Tests, Switches, Phrases, phrase, target_phrases, joined_at, block_phrases, ArmText, phrases_of_arms, scoped_step, scoped_arm, scoped, scoped_of_arm, body_phrases}
use Rattle.c_language.specs.ProgramOf.{collected, optional, expr_of, label_tree, arm_tree, ArmTree, arm_tree_step, block_tree, at_type, switch_type, for_tree, treed_step, treed, treed_arm, body_of}
use Rattle.c_language.specs.Rules.{KeepsRules}
use Rattle.c_language.specs.Scopes.{Scope, Scoped, opened, numbered, in_order, after_all, after_block}
use Rattle.c_language.specs.Syntax.{Position, takes_declaration, takes_compound, takes_return, is_begun, is_target, is_expr, is_label, is_there, all_inner, part_at, stands_step, arm_step, stands, is_arm, is_body}
use Rattle.c_language.specs.Uses.{cases}
use Rattle.c_language.proofs.Lists.{contains_later}
use Rattle.c_language.proofs.Options.{optional_there, map_there, then_there, both_there, more_there}
use Rattle.c_language.proofs.Tests.{false_true}
use Rattle.c_language.proofs.TreeScopes.{after_same, list_after, block_after_same}
use Rattle.dep_model.specs.Doings.{Doing, Does, doings, body_doings}
use Rattle.dep_model.proofs.DoingForms.{arms_doings, part_doings, doings-If, doings-While, doings-Do, doings-Switch, doings-Block, doings-For}
use Rattle.dep_model.proofs.TextNumbers.{for_some}
use Rattle.projection.specs.Kept.{Kept}
use Rattle.c_scope_laws.specs.Thinning.{NamesStay}
use Rattle.c_scope_laws.specs.ThinnedBodies.{AreMet, Left, ArmLeft, all_left, gone, beyond, part_needs, part_gone, left_alone, arms_labels, arms_needs, arms_gone, if_left, while_left, do_left, for_left, switch_left, block_of, block_left, left_scoped, left_arm_step, left, left_arm, body_left}
use Rattle.c_scope_laws.proofs.ThinnedBodies.{join_met, left_after, left_after_block}
use Rattle.projection_laws.specs.Nested.{governs}
use Rattle.projection_laws.specs.Staying.{Rest, any_stays, all_clear, part_stays, part_clear, rest_step}
use Rattle.kept_texts.proofs.KeptPhrases.{K, expr_stays, tests_stay, switches_stay, labels_stay}
use Rattle.kept_texts.proofs.MetNeeds.{AllGood, good_first, good_second, good_parts, rest_of, rest_of_arm, rest_is, arm_rest_is, gone_met, Simple, Beginning, beyond_met, alone_met, alone_none, IsPartAt, declare_begins, declare_simple, assign_simple, bump_simple, return_simple, target_fine, heap_begins, heap_simple, call_simple, call_begins, plain_begins}
use Rattle.kept_texts.proofs.Nameless.{NoNames, labels_name}
use Rattle.kept_texts.proofs.TextPlaces.{AreFine, fine_first, fine_second, Place, place_after, target_place}

ungoverned : (t inside : Bool) → governs t inside ≡ true → t ≡ false → inside ≡ false
ungoverned true inside h q = false_true (sym q)
ungoverned false true h q = false_true h
ungoverned false false h q = refl

no_join : (as_ bs : List RawExpr) → NoNames as_ → NoNames bs → NoNames (as_ ++ bs)
no_join [] bs p q x c = q x c
no_join (a ∷ as_) bs p q x (b, (zero, within, is), n) = p x (b, (zero, omega arith, is), n)
no_join (a ∷ as_) bs p q x (b, (suc i, within, is), n) = no_join as_ bs (λ y (c, d, m). p y (c, contains_later a c as_ d, m)) q x (b, (i, omega (arith, within), is), n)

cases_append : (as_ bs : List RawLabel) → cases (as_ ++ bs) ≡ cases as_ ++ cases bs
cases_append [] bs = refl
cases_append (label.Case a ∷ as_) bs = ap (λ (all : List RawExpr). a ∷ all) (cases_append as_ bs)
cases_append (label.Default ∷ as_) bs = cases_append as_ bs

module _ (raw : RawProgram) (k : Kept ℕ) (rules : KeepsRules raw) (f : ℕ) where
  abbrev kept : Kept Bytes
  kept = K raw k

  abbrev Good : List Doing → Type 0
  Good ds = AllGood raw k rules f ds

  abbrev keep : ℕ → Bool
  keep = k.statement

  abbrev the_rest : Statement → Rest
  the_rest = rest_of raw k rules f

  abbrev the_arm_rest : Arm → Rest
  the_arm_rest = rest_of_arm raw k rules f

  abbrev Begins : Left → Type 0
  Begins l = Beginning l

  abbrev At : Position → Stand → Type 0
  At p stand = IsPartAt p stand

  -- ---- a statement in its tree, as phrases, where it may stand, and what is left of it

  record Given (t : Scoped (Option Statement)) (w : Scoped (Stand → Phrases)) (v : Position → Bool) (scope : Scope) (stand : Stand) (p : Position) (x : Statement) : Type 0 where
    place : Place raw f scope
    syntax : v p ≡ true
    tree : t.gives scope ≡ Some x
    fine : AreFine raw (w.gives scope stand)
    good : Good (doings x)
    clear : (the_rest x).clear ≡ true

  record Case (t : Scoped (Option Statement)) (w : Scoped (Stand → Phrases)) (u : Scoped Left) (v : Position → Bool) : Type 0 where
    needs : (scope : Scope) (stand : Stand) (p : Position) (x : Statement) → Given t w v scope stand p x → AreMet kept (u.gives scope).needs
    -- nothing is left where nothing stays
    none : (scope : Scope) (stand : Stand) (p : Position) (x : Statement) → Given t w v scope stand p x → (the_rest x).stays ≡ false → (u.gives scope).some ≡ []
    -- of a part of a for
    one : (scope : Scope) (stand : Stand) (p : Position) → At p stand → v p ≡ true → AreFine raw (w.gives scope stand) → Begins (u.gives scope)

  record ArmGiven (t : Scoped ArmTree) (w : Scoped ArmText) (b : Bool) (scope : Scope) (i : IntType) (a : Arm) : Type 0 where
    place : Place raw f scope
    syntax : b ≡ true
    tree : t.gives scope i ≡ Some a
    fine : AreFine raw (w.gives scope).phrases
    good : Good (body_doings a.body)
    clear : (the_arm_rest a).clear ≡ true

  record ArmCase (t : Scoped ArmTree) (w : Scoped ArmText) (u : Scoped ArmLeft) (b : Bool) : Type 0 where
    needs : (scope : Scope) (i : IntType) (a : Arm) → ArmGiven t w b scope i a → AreMet kept (u.gives scope).body.needs
    none : (scope : Scope) (i : IntType) (a : Arm) → ArmGiven t w b scope i a → (the_arm_rest a).stays ≡ false → (u.gives scope).body.some ≡ []
    nameless : (scope : Scope) (i : IntType) (a : Arm) → ArmGiven t w b scope i a → NoNames (cases (u.gives scope).labels)
    later : (scope : Scope) (i : IntType) (a : Arm) → ArmGiven t w b scope i a → Place raw f (t.after scope)
    left_same : (scope : Scope) → u.after scope ≡ t.after scope
    text_same : (scope : Scope) → t.after scope ≡ w.after scope

  abbrev Known : Type 0
  Known = (one : RawStatement) × Case (treed raw one) (scoped raw one) (left kept raw one) (stands one)

  abbrev KnownArm : Type 0
  KnownArm = (a : RawArm) × ArmCase (treed_arm raw a) (scoped_of_arm raw a) (left_arm kept raw a) (is_arm a)

  abbrev rows : List Known → List RawStatement
  rows ks = map (λ (p : Known). p.0) ks

  abbrev trees : List Known → List (Scoped (Option Statement))
  trees ks = map (treed raw) (rows ks)

  abbrev texts : List Known → List (Scoped (Stand → Phrases))
  texts ks = map (scoped raw) (rows ks)

  abbrev lefts : List Known → List (Scoped Left)
  lefts ks = map (left kept raw) (rows ks)

  abbrev arm_rows : List KnownArm → List RawArm
  arm_rows ks = map (λ (p : KnownArm). p.0) ks

  abbrev arm_trees : List KnownArm → List (Scoped ArmTree)
  arm_trees ks = map (treed_arm raw) (arm_rows ks)

  abbrev arm_texts : List KnownArm → List (Scoped ArmText)
  arm_texts ks = map (scoped_of_arm raw) (arm_rows ks)

  abbrev arm_lefts : List KnownArm → List (Scoped ArmLeft)
  arm_lefts ks = map (left_arm kept raw) (arm_rows ks)

  left_same : (x : RawStatement) (scope : Scope) → (left kept raw x).after scope ≡ (treed raw x).after scope
  left_same x scope = left_after kept raw x scope ∙ sym (after_same raw x scope)

  -- ---- lists

  record ListGiven (ks : List Known) (scope : Scope) (stand : Stand) (zs : List Statement) : Type 0 where
    place : Place raw f scope
    syntax : all_inner (map stands (rows ks)) ≡ true
    tree : collected (in_order (trees ks) scope) ≡ Some zs
    fine : AreFine raw (joined_at stand (in_order (texts ks) scope))
    good : Good (body_doings zs)
    clear : all_clear (map the_rest zs) ≡ true

  -- the first of a list, and the others
  record Split (q : Known) (ks : List Known) (scope : Scope) (stand : Stand) (zs : List Statement) : Type 0 where
    first : Statement
    rest : List Statement
    one : Given (treed raw q.0) (scoped raw q.0) (stands q.0) scope stand Position.inner first
    more : ListGiven ks ((treed raw q.0).after scope) stand rest
    is : first ∷ rest ≡ zs

  split : (q : Known) (ks : List Known) (scope : Scope) (stand : Stand) (zs : List Statement) → ListGiven (q ∷ ks) scope stand zs → Split q ks scope stand zs
  split q ks scope stand zs g =
      let next = (treed raw q.0).after scope in
      let behind = (scoped raw q.0).after scope in
      let here = (scoped raw q.0).gives scope stand in
      let later = joined_at stand (in_order (texts ks) behind) in
      let z = more_there ((treed raw q.0).gives scope) (in_order (trees ks) next) zs g.tree in
      let b = and_parts (stands q.0 Position.inner) (all_inner (map stands (rows ks))) g.syntax in
      let c = and_parts (the_rest z.first).clear (all_clear (map the_rest z.rest)) (ap (λ (ys : List Statement). all_clear (map the_rest ys)) z.same ∙ g.clear) in
      let good : Good (doings z.first ++ body_doings z.rest) = subst (λ (ys : List Statement). Good (body_doings ys)) (sym z.same) g.good in
      let fine = fine_first raw here later g.fine in
      record {
        first = z.first;
        rest = z.rest;
        one = record { place = g.place; syntax = b.0; tree = z.first_there; fine = fine; good = good_first raw k rules f (doings z.first) (body_doings z.rest) good; clear = c.0 };
        more = record {
          place = place_after raw f q.0 scope stand fine g.place;
          syntax = b.1;
          tree = z.rest_there;
          fine = subst (λ (y : Scope). AreFine raw (joined_at stand (in_order (texts ks) y))) (sym (after_same raw q.0 scope)) (fine_second raw here later g.fine);
          good = good_second raw k rules f (doings z.first) (body_doings z.rest) good;
          clear = c.1;
        };
        is = z.same;
      }

  list_needs : (ks : List Known) (scope : Scope) (stand : Stand) (zs : List Statement) → ListGiven ks scope stand zs → AreMet kept (all_left (in_order (lefts ks) scope)).needs
  list_needs [] scope stand zs g = tt
  list_needs (q ∷ ks) scope stand zs g =
      let w = split q ks scope stand zs g in
      subst (λ (y : Scope). AreMet kept (all_left ((left kept raw q.0).gives scope ∷ in_order (lefts ks) y)).needs) (sym (left_same q.0 scope))
      (join_met kept ((left kept raw q.0).gives scope).needs (all_left (in_order (lefts ks) ((treed raw q.0).after scope))).needs (q.1.needs scope stand Position.inner w.first w.one) (list_needs ks ((treed raw q.0).after scope) stand w.rest w.more))

  list_none : (ks : List Known) (scope : Scope) (stand : Stand) (zs : List Statement) → ListGiven ks scope stand zs → any_stays (map the_rest zs) ≡ false → (all_left (in_order (lefts ks) scope)).some ≡ []
  list_none [] scope stand zs g h = refl
  list_none (q ∷ ks) scope stand zs g h =
      let w = split q ks scope stand zs g in
      let b = or_parts (the_rest w.first).stays (any_stays (map the_rest w.rest)) (ap (λ (ys : List Statement). any_stays (map the_rest ys)) w.is ∙ h) in
      subst (λ (y : Scope). (all_left ((left kept raw q.0).gives scope ∷ in_order (lefts ks) y)).some ≡ []) (sym (left_same q.0 scope))
      (ap₂ (λ (as_ bs : List RawStatement). as_ ++ bs) (q.1.none scope stand Position.inner w.first w.one b.0) (list_none ks ((treed raw q.0).after scope) stand w.rest w.more b.1))

  -- ---- arms

  record ArmsGiven (ks : List KnownArm) (scope : Scope) (i : IntType) (as_ : List Arm) : Type 0 where
    place : Place raw f scope
    syntax : all_true (map is_arm (arm_rows ks)) ≡ true
    tree : at_type i (in_order (arm_trees ks) scope) ≡ Some as_
    fine : AreFine raw (phrases_of_arms (in_order (arm_texts ks) scope))
    good : Good (arms_doings as_)
    clear : all_clear (map the_arm_rest as_) ≡ true

  record ArmsSplit (q : KnownArm) (ks : List KnownArm) (scope : Scope) (i : IntType) (as_ : List Arm) : Type 0 where
    first : Arm
    rest : List Arm
    one : ArmGiven (treed_arm raw q.0) (scoped_of_arm raw q.0) (is_arm q.0) scope i first
    more : ArmsGiven ks ((treed_arm raw q.0).after scope) i rest
    is : first ∷ rest ≡ as_

  arms_split : (q : KnownArm) (ks : List KnownArm) (scope : Scope) (i : IntType) (as_ : List Arm) → ArmsGiven (q ∷ ks) scope i as_ → ArmsSplit q ks scope i as_
  arms_split q ks scope i as_ g =
      let next = (treed_arm raw q.0).after scope in
      let behind = (scoped_of_arm raw q.0).after scope in
      let here = ((scoped_of_arm raw q.0).gives scope).phrases in
      let later = phrases_of_arms (in_order (arm_texts ks) behind) in
      let z = more_there ((treed_arm raw q.0).gives scope i) (map (λ (a : ArmTree). a i) (in_order (arm_trees ks) next)) as_ g.tree in
      let b = and_parts (is_arm q.0) (all_true (map is_arm (arm_rows ks))) g.syntax in
      let c = and_parts (the_arm_rest z.first).clear (all_clear (map the_arm_rest z.rest)) (ap (λ (ys : List Arm). all_clear (map the_arm_rest ys)) z.same ∙ g.clear) in
      let good : Good (body_doings z.first.body ++ arms_doings z.rest) = subst (λ (ys : List Arm). Good (arms_doings ys)) (sym z.same) g.good in
      let one : ArmGiven (treed_arm raw q.0) (scoped_of_arm raw q.0) (is_arm q.0) scope i z.first =
      record { place = g.place; syntax = b.0; tree = z.first_there; fine = fine_first raw here later g.fine; good = good_first raw k rules f (body_doings z.first.body) (arms_doings z.rest) good; clear = c.0 }
      in
      record {
        first = z.first;
        rest = z.rest;
        one = one;
        more = record {
          place = q.1.later scope i z.first one;
          syntax = b.1;
          tree = z.rest_there;
          fine = subst (λ (y : Scope). AreFine raw (phrases_of_arms (in_order (arm_texts ks) y))) (sym (q.1.text_same scope)) (fine_second raw here later g.fine);
          good = good_second raw k rules f (body_doings z.first.body) (arms_doings z.rest) good;
          clear = c.1;
        };
        is = z.same;
      }

  arms_need : (ks : List KnownArm) (scope : Scope) (i : IntType) (as_ : List Arm) → ArmsGiven ks scope i as_ → AreMet kept (arms_needs (in_order (arm_lefts ks) scope))
  arms_need [] scope i as_ g = tt
  arms_need (q ∷ ks) scope i as_ g =
      let w = arms_split q ks scope i as_ g in
      let l = (left_arm kept raw q.0).gives scope in
      subst (λ (y : Scope). AreMet kept (arms_needs ((left_arm kept raw q.0).gives scope ∷ in_order (arm_lefts ks) y))) (sym (q.1.left_same scope))
      (labels_stay raw k l.scope l.labels (q.1.nameless scope i w.first w.one), join_met kept l.body.needs (arms_needs (in_order (arm_lefts ks) ((treed_arm raw q.0).after scope))) (q.1.needs scope i w.first w.one) (arms_need ks ((treed_arm raw q.0).after scope) i w.rest w.more))

  arms_go : (ks : List KnownArm) (scope : Scope) (i : IntType) (as_ : List Arm) → ArmsGiven ks scope i as_ → any_stays (map the_arm_rest as_) ≡ false → AreMet kept (arms_gone (in_order (arm_lefts ks) scope))
  arms_go [] scope i as_ g h = tt
  arms_go (q ∷ ks) scope i as_ g h =
      let w = arms_split q ks scope i as_ g in
      let b = or_parts (the_arm_rest w.first).stays (any_stays (map the_arm_rest w.rest)) (ap (λ (ys : List Arm). any_stays (map the_arm_rest ys)) w.is ∙ h) in
      let l = (left_arm kept raw q.0).gives scope in
      subst (λ (y : Scope). AreMet kept (arms_gone ((left_arm kept raw q.0).gives scope ∷ in_order (arm_lefts ks) y))) (sym (q.1.left_same scope))
      (join_met kept (gone l.body) (arms_gone (in_order (arm_lefts ks) ((treed_arm raw q.0).after scope))) (gone_met raw k rules f l.body (q.1.needs scope i w.first w.one) (q.1.none scope i w.first w.one b.0)) (arms_go ks ((treed_arm raw q.0).after scope) i w.rest w.more b.1))

  no_member : {A : Type 0} (a : RawExpr) → Contains [] a → A
  no_member a (j, within, is) = absurd (omega (arith, within))

  arms_nameless : (ks : List KnownArm) (scope : Scope) (i : IntType) (as_ : List Arm) → ArmsGiven ks scope i as_ → NoNames (cases (arms_labels (in_order (arm_lefts ks) scope)))
  arms_nameless [] scope i as_ g = λ x (a, c, n). no_member a c
  arms_nameless (q ∷ ks) scope i as_ g =
      let w = arms_split q ks scope i as_ g in
      let l = (left_arm kept raw q.0).gives scope in
      let later = arms_labels (in_order (arm_lefts ks) ((treed_arm raw q.0).after scope)) in
      subst (λ (y : Scope). NoNames (cases (arms_labels ((left_arm kept raw q.0).gives scope ∷ in_order (arm_lefts ks) y)))) (sym (q.1.left_same scope))
      (subst NoNames (sym (cases_append l.labels later)) (no_join (cases l.labels) (cases later) (q.1.nameless scope i w.first w.one) (arms_nameless ks ((treed_arm raw q.0).after scope) i w.rest w.more)))

  -- ---- forms with parts, by whether they are kept

  if_needs : (t : Bool) (l : ℕ) (a : RawExpr) (b c : Left) (scope : Scope) → (t ≡ true → NamesStay kept scope (Tests a)) → AreMet kept b.needs → AreMet kept c.needs → (t ≡ false → b.some ≡ []) → (t ≡ false → c.some ≡ []) → AreMet kept (if_left raw t l a b c scope).needs
  if_needs true l a b c scope h p q i j = (h refl, join_met kept b.needs c.needs p q)
  if_needs false l a b c scope h p q i j = join_met kept (gone b) (gone c) (gone_met raw k rules f b p (i refl)) (gone_met raw k rules f c q (j refl))

  if_none : (t : Bool) (l : ℕ) (a : RawExpr) (b c : Left) (scope : Scope) → t ≡ false → (if_left raw t l a b c scope).some ≡ []
  if_none true l a b c scope h = false_true (sym h)
  if_none false l a b c scope h = refl

  while_needs : (t : Bool) (l : ℕ) (a : RawExpr) (b : Left) (scope : Scope) → (t ≡ true → NamesStay kept scope (Tests a)) → AreMet kept b.needs → (t ≡ false → b.some ≡ []) → AreMet kept (while_left raw t l a b scope).needs
  while_needs true l a b scope h p i = (h refl, p)
  while_needs false l a b scope h p i = gone_met raw k rules f b p (i refl)

  while_none : (t : Bool) (l : ℕ) (a : RawExpr) (b : Left) (scope : Scope) → t ≡ false → (while_left raw t l a b scope).some ≡ []
  while_none true l a b scope h = false_true (sym h)
  while_none false l a b scope h = refl

  do_needs : (t : Bool) (l : ℕ) (a : RawExpr) (b : Left) (scope : Scope) → (t ≡ true → NamesStay kept scope (Tests a)) → AreMet kept b.needs → (t ≡ false → b.some ≡ []) → AreMet kept (do_left raw t l a b scope).needs
  do_needs true l a b scope h p i = (h refl, p)
  do_needs false l a b scope h p i = gone_met raw k rules f b p (i refl)

  do_none : (t : Bool) (l : ℕ) (a : RawExpr) (b : Left) (scope : Scope) → t ≡ false → (do_left raw t l a b scope).some ≡ []
  do_none true l a b scope h = false_true (sym h)
  do_none false l a b scope h = refl

  switch_needs : (t : Bool) (l : ℕ) (a : RawExpr) (arms : List ArmLeft) (scope : Scope) → (t ≡ true → NamesStay kept scope (Switches a (arms_labels arms))) → AreMet kept (arms_needs arms) → (t ≡ false → AreMet kept (arms_gone arms)) → AreMet kept (switch_left raw t l a arms scope).needs
  switch_needs true l a arms scope h p g = (h refl, p)
  switch_needs false l a arms scope h p g = g refl

  switch_none : (t : Bool) (l : ℕ) (a : RawExpr) (arms : List ArmLeft) (scope : Scope) → t ≡ false → (switch_left raw t l a arms scope).some ≡ []
  switch_none true l a arms scope h = false_true (sym h)
  switch_none false l a arms scope h = refl

  for_needs : (t : Bool) (l : ℕ) (i : Option Left) (a : RawExpr) (step : Option Left) (b : Left) (test : Scope) → (t ≡ true → NamesStay kept test (Tests a)) → AreMet kept (part_needs i) → AreMet kept (part_needs step) → AreMet kept b.needs
      → AreMet kept (left_alone l i).needs → (t ≡ false → AreMet kept (part_gone step)) → (t ≡ false → b.some ≡ []) → AreMet kept (for_left raw t l i a step b test).needs
  for_needs true l i a step b test h p q r alone g j = (h refl, join_met kept (part_needs i) (part_needs step ++ b.needs) p (join_met kept (part_needs step) b.needs q r))
  for_needs false l i a step b test h p q r alone g j =
      join_met kept (left_alone l i).needs (part_gone step ++ gone b) alone (join_met kept (part_gone step) (gone b) (g refl) (gone_met raw k rules f b r (j refl)))

  for_none : (t : Bool) (l : ℕ) (i : Option Left) (a : RawExpr) (step : Option Left) (b : Left) (test : Scope) → t ≡ false → (left_alone l i).some ≡ [] → (for_left raw t l i a step b test).some ≡ []
  for_none true l i a step b test h g = false_true (sym h)
  for_none false l i a step b test h g = g

  block_none : (l : ℕ) (xs : List RawStatement) → xs ≡ [] → block_of l xs ≡ []
  block_none l xs h = ap (block_of l) h

  -- a test names what was kept for it
  test_named : (x : Statement) (i : ℕ) (u : Expr) (ds : List Doing) (scope : Scope) (a : RawExpr) → doings x ≡ Does i (TestsAct u) ∷ ds → Good (doings x) → expr_of raw scope a ≡ Some u → keep i ≡ true → NamesStay kept scope (Tests a)
  test_named x i u ds scope a is good there c = tests_stay raw k scope a (expr_stays raw k scope a u there ((good_parts raw k rules f x (Does i (TestsAct u)) ds is good).0 c).names)

  -- ---- forms

  abbrev layer_of : RawStatement-F Known KnownArm → RawStatement-F RawStatement RawArm
  layer_of = map-RawStatement Known KnownArm RawStatement RawArm (λ p. p.0) (λ p. p.0)

  abbrev arm_layer_of : RawArm-F Known KnownArm → RawArm-F RawStatement RawArm
  arm_layer_of = map-RawArm Known KnownArm RawStatement RawArm (λ p. p.0) (λ p. p.0)

  abbrev as_tree : RawStatement-F RawStatement RawArm → Scoped (Option Statement)
  as_tree y = treed_step raw (map-RawStatement RawStatement RawArm (Scoped (Option Statement)) (Scoped ArmTree) (treed raw) (treed_arm raw) y)

  abbrev as_text : RawStatement-F RawStatement RawArm → Scoped (Stand → Phrases)
  as_text y = scoped_step raw (map-RawStatement RawStatement RawArm (Scoped (Stand → Phrases)) (Scoped ArmText) (scoped raw) (scoped_of_arm raw) y)

  abbrev as_left : RawStatement-F RawStatement RawArm → Scoped Left
  as_left y = left_scoped kept raw (map-RawStatement RawStatement RawArm (Scoped Left) (Scoped ArmLeft) (left kept raw) (left_arm kept raw) y)

  abbrev as_stands : RawStatement-F RawStatement RawArm → Position → Bool
  as_stands y = stands_step (map-RawStatement RawStatement RawArm (Position → Bool) Bool stands is_arm y)

  abbrev as_arm_tree : RawArm-F RawStatement RawArm → Scoped ArmTree
  as_arm_tree y = arm_tree_step raw (map-RawArm RawStatement RawArm (Scoped (Option Statement)) (Scoped ArmTree) (treed raw) (treed_arm raw) y)

  abbrev as_arm_text : RawArm-F RawStatement RawArm → Scoped ArmText
  as_arm_text y = scoped_arm (map-RawArm RawStatement RawArm (Scoped (Stand → Phrases)) (Scoped ArmText) (scoped raw) (scoped_of_arm raw) y)

  abbrev as_arm_left : RawArm-F RawStatement RawArm → Scoped ArmLeft
  as_arm_left y = left_arm_step kept raw (map-RawArm RawStatement RawArm (Scoped Left) (Scoped ArmLeft) (left kept raw) (left_arm kept raw) y)

  abbrev as_arm : RawArm-F RawStatement RawArm → Bool
  as_arm y = arm_step (map-RawArm RawStatement RawArm (Position → Bool) Bool stands is_arm y)

  abbrev CaseAt : RawStatement-F RawStatement RawArm → Type 0
  CaseAt y = Case (as_tree y) (as_text y) (as_left y) (as_stands y)

  -- no part of a for has parts
  no_part : {A : Type 0} (p : Position) (stand : Stand) (b : Bool) → At p stand → (takes_compound p && b) ≡ true → A
  no_part p stand b IsPartAt.in_first h = false_true h
  no_part p stand b IsPartAt.in_step h = false_true h

  no_return : {A : Type 0} (p : Position) (stand : Stand) (b : Bool) → At p stand → (takes_return p && b) ≡ true → A
  no_return p stand b IsPartAt.in_first h = false_true h
  no_return p stand b IsPartAt.in_step h = false_true h

  block_same : (a : List Known) (scope : Scope) → after_block (lefts a) scope ≡ after_block (trees a) scope
  block_same a scope = left_after_block kept raw (rows a) scope ∙ sym (block_after_same raw (rows a) scope)

  record IfParts (scope : Scope) (l : ℕ) (test : RawExpr) (a b : List Known) (x : Statement) : Type 0 where
    value : Expr
    first : List Statement
    second : List Statement
    there : expr_of raw scope test ≡ Some value
    first_is : collected (in_order (trees a) (opened (numbered scope))) ≡ Some first
    second_is : collected (in_order (trees b) (opened (after_block (trees a) (numbered scope)))) ≡ Some second
    is : s.If scope.statements l value first second ≡ x

  if_parts : (scope : Scope) (l : ℕ) (test : RawExpr) (a b : List Known) (x : Statement) → (as_tree (RawStatement-F.If l test (rows a) (rows b))).gives scope ≡ Some x → IfParts scope l test a b x
  if_parts scope l test a b x e =
      let t = then_there (λ (z : Expr). both (s.If scope.statements l z) (block_tree (trees a) (numbered scope)) (block_tree (trees b) (after_block (trees a) (numbered scope)))) (expr_of raw scope test) x e in
      let m = both_there (s.If scope.statements l t.value) (block_tree (trees a) (numbered scope)) (block_tree (trees b) (after_block (trees a) (numbered scope))) x t.same in
      record { value = t.value; first = m.left; second = m.right; there = t.there; first_is = m.left_there; second_is = m.right_there; is = m.same }

  -- what is known of an if, and so of its parts
  record IfKnown (scope : Scope) (l : ℕ) (test : RawExpr) (a b : List Known) (x : Statement) : Type 0 where
    parts : IfParts scope l test a b x
    rest_there : the_rest x ≡ rest_step k.statement k.variable (map-Statement Statement Arm Rest Rest the_rest the_arm_rest (Statement-F.If scope.statements l parts.value parts.first parts.second))
    does : doings x ≡ Does scope.statements (TestsAct parts.value) ∷ (body_doings parts.first ++ body_doings parts.second)
    governed : governs (keep scope.statements) (any_stays (map the_rest parts.first) || any_stays (map the_rest parts.second)) ≡ true
    first : ListGiven a (opened (numbered scope)) InBlock parts.first
    second : ListGiven b (opened (after_block (trees a) (numbered scope))) InBlock parts.second

  if_known : (l : ℕ) (test : RawExpr) (a b : List Known) (scope : Scope) (stand : Stand) (p : Position) (x : Statement)
      → Given (as_tree (RawStatement-F.If l test (rows a) (rows b))) (as_text (RawStatement-F.If l test (rows a) (rows b))) (as_stands (RawStatement-F.If l test (rows a) (rows b))) scope stand p x → IfKnown scope l test a b x
  if_known l test a b scope stand p x g =
      let w = if_parts scope l test a b x g.tree in
      let r = rest_is raw k rules f (Statement-F.If scope.statements l w.value w.first w.second) x (s.rolls-If scope.statements l w.value w.first w.second ∙ w.is) in
      let does = ap doings (sym w.is) ∙ doings-If scope.statements l w.value w.first w.second in
      let c = and_parts (governs (keep scope.statements) (any_stays (map the_rest w.first) || any_stays (map the_rest w.second))) (all_clear (map the_rest w.first) && all_clear (map the_rest w.second)) (sym (ap (λ (y : Rest). y.clear) r) ∙ g.clear) in
      let d = and_parts (all_clear (map the_rest w.first)) (all_clear (map the_rest w.second)) c.1 in
      let h1 = (and_parts (takes_compound p) (is_expr test && (all_inner (map stands (rows a)) && all_inner (map stands (rows b)))) g.syntax).1 in
      let h2 = (and_parts (is_expr test) (all_inner (map stands (rows a)) && all_inner (map stands (rows b))) h1).1 in
      let h3 = and_parts (all_inner (map stands (rows a))) (all_inner (map stands (rows b))) h2 in
      let good = (good_parts raw k rules f x (Does scope.statements (TestsAct w.value)) (body_doings w.first ++ body_doings w.second) does g.good).1 in
      let ps = block_phrases (texts a) (numbered scope) in
      let qs = block_phrases (texts b) (after_block (texts a) (numbered scope)) in
      record {
        parts = w;
        rest_there = r;
        does = does;
        governed = c.0;
        first = record { place = g.place; syntax = h3.0; tree = w.first_is; fine = fine_first raw ps qs g.fine.1; good = good_first raw k rules f (body_doings w.first) (body_doings w.second) good; clear = d.0 };
        second = record {
          place = g.place;
          syntax = h3.1;
          tree = w.second_is;
          fine = subst (λ (z : Scope). AreFine raw (block_phrases (texts b) z)) (sym (block_after_same raw (rows a) (numbered scope))) (fine_second raw ps qs g.fine.1);
          good = good_second raw k rules f (body_doings w.first) (body_doings w.second) good;
          clear = d.1;
        };
      }

  if_case : (l : ℕ) (test : RawExpr) (a b : List Known) → CaseAt (RawStatement-F.If l test (rows a) (rows b))
  if_case l test a b = record {
    needs = λ scope stand p x g.
        let h = if_known l test a b scope stand p x g in
        let w = h.parts in
        let none = λ (t : keep scope.statements ≡ false). or_parts (any_stays (map the_rest w.first)) (any_stays (map the_rest w.second)) (ungoverned (keep scope.statements) _ h.governed t) in
        let start = opened (numbered scope) in
        let between = opened (after_block (trees a) (numbered scope)) in
        subst (λ (z : Scope). AreMet kept (if_left raw (keep scope.statements) l test (block_left kept raw (lefts a) (numbered scope)) (block_left kept raw (lefts b) z) scope).needs) (sym (block_same a (numbered scope)))
        (if_needs (keep scope.statements) l test (all_left (in_order (lefts a) start)) (all_left (in_order (lefts b) between)) scope (test_named x scope.statements w.value _ scope test h.does g.good w.there)
        (list_needs a start InBlock w.first h.first) (list_needs b between InBlock w.second h.second) (λ t. list_none a start InBlock w.first h.first (none t).0) (λ t. list_none b between InBlock w.second h.second (none t).1));
    none = λ scope stand p x g q.
        let h = if_known l test a b scope stand p x g in
        if_none (keep scope.statements) l test (block_left kept raw (lefts a) (numbered scope)) (block_left kept raw (lefts b) (after_block (lefts a) (numbered scope))) scope (sym (ap (λ (y : Rest). y.stays) h.rest_there) ∙ q);
    one = λ scope stand p at h fine. no_part p stand _ at h;
  }

  -- a loop over one block
  record LoopKnown (scope : Scope) (test : RawExpr) (b : List Known) (x : Statement) : Type 0 where
    value : Expr
    body : List Statement
    there : expr_of raw scope test ≡ Some value
    does : doings x ≡ Does scope.statements (TestsAct value) ∷ body_doings body
    stays_is : (the_rest x).stays ≡ keep scope.statements
    governed : governs (keep scope.statements) (any_stays (map the_rest body)) ≡ true
    inside : ListGiven b (opened (numbered scope)) InBlock body

  loop_known : (test : RawExpr) (b : List Known) (scope : Scope) (stand : Stand) (p : Position) (x : Statement) (u : Expr) (zs : List Statement) → Place raw f scope → expr_of raw scope test ≡ Some u → collected (in_order (trees b) (opened (numbered scope))) ≡ Some zs
      → (takes_compound p && (is_expr test && all_inner (map stands (rows b)))) ≡ true → AreFine raw (block_phrases (texts b) (numbered scope)) → Good (doings x) → doings x ≡ Does scope.statements (TestsAct u) ∷ body_doings zs
      → the_rest x ≡ record { stays = keep scope.statements; clear = governs (keep scope.statements) (any_stays (map the_rest zs)) && all_clear (map the_rest zs) } → (the_rest x).clear ≡ true → LoopKnown scope test b x
  loop_known test b scope stand p x u zs place there tree syntax fine good does r clear =
      let c = and_parts (governs (keep scope.statements) (any_stays (map the_rest zs))) (all_clear (map the_rest zs)) (sym (ap (λ (y : Rest). y.clear) r) ∙ clear) in
      let h1 = (and_parts (takes_compound p) (is_expr test && all_inner (map stands (rows b))) syntax).1 in
      record {
        value = u;
        body = zs;
        there = there;
        does = does;
        stays_is = ap (λ (y : Rest). y.stays) r;
        governed = c.0;
        inside = record { place = place; syntax = (and_parts (is_expr test) (all_inner (map stands (rows b))) h1).1; tree = tree; fine = fine; good = (good_parts raw k rules f x (Does scope.statements (TestsAct u)) (body_doings zs) does good).1; clear = c.1 };
      }

  while_known : (l : ℕ) (test : RawExpr) (b : List Known) (scope : Scope) (stand : Stand) (p : Position) (x : Statement)
      → Given (as_tree (RawStatement-F.While l test (rows b))) (as_text (RawStatement-F.While l test (rows b))) (as_stands (RawStatement-F.While l test (rows b))) scope stand p x → LoopKnown scope test b x
  while_known l test b scope stand p x g =
      let m = both_there (s.While scope.statements l) (expr_of raw scope test) (block_tree (trees b) (numbered scope)) x g.tree in
      loop_known test b scope stand p x m.left m.right g.place m.left_there m.right_there g.syntax g.fine.1 g.good (ap doings (sym m.same) ∙ doings-While scope.statements l m.left m.right)
      (rest_is raw k rules f (Statement-F.While scope.statements l m.left m.right) x (s.rolls-While scope.statements l m.left m.right ∙ m.same)) g.clear

  do_known : (l : ℕ) (test : RawExpr) (b : List Known) (scope : Scope) (stand : Stand) (p : Position) (x : Statement)
      → Given (as_tree (RawStatement-F.Do l test (rows b))) (as_text (RawStatement-F.Do l test (rows b))) (as_stands (RawStatement-F.Do l test (rows b))) scope stand p x → LoopKnown scope test b x
  do_known l test b scope stand p x g =
      let m = both_there (s.Do scope.statements l) (expr_of raw scope test) (block_tree (trees b) (numbered scope)) x g.tree in
      loop_known test b scope stand p x m.left m.right g.place m.left_there m.right_there g.syntax g.fine.1 g.good (ap doings (sym m.same) ∙ doings-Do scope.statements l m.left m.right)
      (rest_is raw k rules f (Statement-F.Do scope.statements l m.left m.right) x (s.rolls-Do scope.statements l m.left m.right ∙ m.same)) g.clear

  while_case : (l : ℕ) (test : RawExpr) (b : List Known) → CaseAt (RawStatement-F.While l test (rows b))
  while_case l test b = record {
    needs = λ scope stand p x g.
        let h = while_known l test b scope stand p x g in
        let start = opened (numbered scope) in
        while_needs (keep scope.statements) l test (all_left (in_order (lefts b) start)) scope (test_named x scope.statements h.value (body_doings h.body) scope test h.does g.good h.there) (list_needs b start InBlock h.body h.inside)
        (λ t. list_none b start InBlock h.body h.inside (ungoverned (keep scope.statements) _ h.governed t));
    none = λ scope stand p x g q.
        let h = while_known l test b scope stand p x g in while_none (keep scope.statements) l test (all_left (in_order (lefts b) (opened (numbered scope)))) scope (sym h.stays_is ∙ q);
    one = λ scope stand p at h fine. no_part p stand _ at h;
  }

  do_case : (l : ℕ) (test : RawExpr) (b : List Known) → CaseAt (RawStatement-F.Do l test (rows b))
  do_case l test b = record {
    needs = λ scope stand p x g.
        let h = do_known l test b scope stand p x g in
        let start = opened (numbered scope) in
        do_needs (keep scope.statements) l test (all_left (in_order (lefts b) start)) scope (test_named x scope.statements h.value (body_doings h.body) scope test h.does g.good h.there) (list_needs b start InBlock h.body h.inside)
        (λ t. list_none b start InBlock h.body h.inside (ungoverned (keep scope.statements) _ h.governed t));
    none = λ scope stand p x g q.
        let h = do_known l test b scope stand p x g in do_none (keep scope.statements) l test (all_left (in_order (lefts b) (opened (numbered scope)))) scope (sym h.stays_is ∙ q);
    one = λ scope stand p at h fine. no_part p stand _ at h;
  }

  record BlockKnown (l : ℕ) (b : List Known) (scope : Scope) (x : Statement) : Type 0 where
    body : List Statement
    stays_is : (the_rest x).stays ≡ any_stays (map the_rest body)
    inside : ListGiven b (opened scope) InBlock body

  block_known : (l : ℕ) (b : List Known) (scope : Scope) (stand : Stand) (p : Position) (x : Statement)
      → Given (as_tree (RawStatement-F.Block l (rows b))) (as_text (RawStatement-F.Block l (rows b))) (as_stands (RawStatement-F.Block l (rows b))) scope stand p x → BlockKnown l b scope x
  block_known l b scope stand p x g =
      let m = map_there (s.Block l) (block_tree (trees b) scope) x g.tree in
      let r = rest_is raw k rules f (Statement-F.Block l m.value) x (s.rolls-Block l m.value ∙ m.same) in
      record {
        body = m.value;
        stays_is = ap (λ (y : Rest). y.stays) r;
        inside = record {
          place = g.place;
          syntax = (and_parts (takes_compound p) (all_inner (map stands (rows b))) g.syntax).1;
          tree = m.there;
          fine = g.fine;
          good = subst Good (ap doings (sym m.same) ∙ doings-Block l m.value) g.good;
          clear = sym (ap (λ (y : Rest). y.clear) r) ∙ g.clear;
        };
      }

  block_case : (l : ℕ) (b : List Known) → CaseAt (RawStatement-F.Block l (rows b))
  block_case l b = record {
    needs = λ scope stand p x g. let h = block_known l b scope stand p x g in list_needs b (opened scope) InBlock h.body h.inside;
    none = λ scope stand p x g q.
        let h = block_known l b scope stand p x g in block_none l (all_left (in_order (lefts b) (opened scope))).some (list_none b (opened scope) InBlock h.body h.inside (sym h.stays_is ∙ q));
    one = λ scope stand p at h fine. no_part p stand _ at h;
  }

  record SwitchKnown (test : RawExpr) (arms : List KnownArm) (scope : Scope) (x : Statement) : Type 0 where
    value : Expr
    type : IntType
    all : List Arm
    there : expr_of raw scope test ≡ Some value
    does : doings x ≡ Does scope.statements (TestsAct value) ∷ arms_doings all
    stays_is : (the_rest x).stays ≡ keep scope.statements
    governed : governs (keep scope.statements) (any_stays (map the_arm_rest all)) ≡ true
    inside : ArmsGiven arms (opened (numbered scope)) type all

  switch_known : (l : ℕ) (test : RawExpr) (arms : List KnownArm) (scope : Scope) (stand : Stand) (p : Position) (x : Statement)
      → Given (as_tree (RawStatement-F.Switch l test (arm_rows arms))) (as_text (RawStatement-F.Switch l test (arm_rows arms))) (as_stands (RawStatement-F.Switch l test (arm_rows arms))) scope stand p x → SwitchKnown test arms scope x
  switch_known l test arms scope stand p x g =
      let start = opened (numbered scope) in
      let t = then_there (λ (z : Expr). option_and_then (λ (i : IntType). option_map (s.Switch scope.statements l z) (at_type i (in_order (arm_trees arms) start))) (switch_type raw scope test)) (expr_of raw scope test) x g.tree in
      let u = then_there (λ (i : IntType). option_map (s.Switch scope.statements l t.value) (at_type i (in_order (arm_trees arms) start))) (switch_type raw scope test) x t.same in
      let m = map_there (s.Switch scope.statements l t.value) (at_type u.value (in_order (arm_trees arms) start)) x u.same in
      let r = rest_is raw k rules f (Statement-F.Switch scope.statements l t.value m.value) x (s.rolls-Switch scope.statements l t.value m.value ∙ m.same) in
      let does = ap doings (sym m.same) ∙ doings-Switch scope.statements l t.value m.value in
      let c = and_parts (governs (keep scope.statements) (any_stays (map the_arm_rest m.value))) (all_clear (map the_arm_rest m.value)) (sym (ap (λ (y : Rest). y.clear) r) ∙ g.clear) in
      let h1 = (and_parts (takes_compound p) (is_expr test && all_true (map is_arm (arm_rows arms))) g.syntax).1 in
      record {
        value = t.value;
        type = u.value;
        all = m.value;
        there = t.there;
        does = does;
        stays_is = ap (λ (y : Rest). y.stays) r;
        governed = c.0;
        inside = record {
          place = g.place;
          syntax = (and_parts (is_expr test) (all_true (map is_arm (arm_rows arms))) h1).1;
          tree = m.there;
          fine = g.fine.1;
          good = (good_parts raw k rules f x (Does scope.statements (TestsAct t.value)) (arms_doings m.value) does g.good).1;
          clear = c.1;
        };
      }

  switch_case : (l : ℕ) (test : RawExpr) (arms : List KnownArm) → CaseAt (RawStatement-F.Switch l test (arm_rows arms))
  switch_case l test arms = record {
    needs = λ scope stand p x g.
        let h = switch_known l test arms scope stand p x g in
        let start = opened (numbered scope) in
        let left_arms = in_order (arm_lefts arms) start in
        switch_needs (keep scope.statements) l test left_arms scope
        (λ c. switches_stay raw k scope test (arms_labels left_arms) (expr_stays raw k scope test h.value h.there ((good_parts raw k rules f x (Does scope.statements (TestsAct h.value)) (arms_doings h.all) h.does g.good).0 c).names) (arms_nameless arms start h.type h.all h.inside))
        (arms_need arms start h.type h.all h.inside) (λ t. arms_go arms start h.type h.all h.inside (ungoverned (keep scope.statements) _ h.governed t));
    none = λ scope stand p x g q.
        let h = switch_known l test arms scope stand p x g in switch_none (keep scope.statements) l test (in_order (arm_lefts arms) (opened (numbered scope))) scope (sym h.stays_is ∙ q);
    one = λ scope stand p at h fine. no_part p stand _ at h;
  }

  -- ---- a for

  abbrev part_after : Option Known → Scope → Scope
  part_after None scope = scope
  part_after (Some q) scope = (treed raw q.0).after scope

  abbrev part_given : Option Known → Scope → Option (Option Statement)
  part_given None scope = Some None
  part_given (Some q) scope = optional (Some ((treed raw q.0).gives scope))

  abbrev text_after : Option Known → Scope → Scope
  text_after None scope = scope
  text_after (Some q) scope = (scoped raw q.0).after scope

  abbrev part_phrases : Option Known → Scope → Stand → Phrases
  part_phrases None scope stand = []
  part_phrases (Some q) scope stand = (scoped raw q.0).gives scope stand

  abbrev part_stands : Option Known → Option (Position → Bool)
  part_stands None = None
  part_stands (Some q) = Some (stands q.0)

  abbrev part_left : Option Known → Scope → Option Left
  part_left None scope = None
  part_left (Some q) scope = Some ((left kept raw q.0).gives scope)

  abbrev left_next : Option Known → Scope → Scope
  left_next None scope = scope
  left_next (Some q) scope = (left kept raw q.0).after scope

  part_same : (o : Option Known) (scope : Scope) → part_after o scope ≡ text_after o scope
  part_same None scope = refl
  part_same (Some q) scope = after_same raw q.0 scope

  next_same : (o : Option Known) (scope : Scope) → left_next o scope ≡ part_after o scope
  next_same None scope = refl
  next_same (Some q) scope = left_same q.0 scope

  record PartGiven (o : Option Known) (scope : Scope) (stand : Stand) (p : Position) (y : Option Statement) : Type 0 where
    place : Place raw f scope
    at : At p stand
    syntax : part_at p (part_stands o) ≡ true
    tree : part_given o scope ≡ Some y
    fine : AreFine raw (part_phrases o scope stand)
    good : Good (part_doings y)
    clear : part_clear (option_map the_rest y) ≡ true

  -- a part that is there, as a statement
  record PartOne (q : Known) (scope : Scope) (stand : Stand) (p : Position) (y : Option Statement) : Type 0 where
    value : Statement
    given : Given (treed raw q.0) (scoped raw q.0) (stands q.0) scope stand p value
    is : Some value ≡ y

  part_one : (q : Known) (scope : Scope) (stand : Stand) (p : Position) (y : Option Statement) → PartGiven (Some q) scope stand p y → PartOne q scope stand p y
  part_one q scope stand p y g =
      let w = optional_there ((treed raw q.0).gives scope) y g.tree in
      record {
        value = w.0;
        given = record { place = g.place; syntax = g.syntax; tree = w.1.0; fine = g.fine; good = subst (λ (z : Option Statement). Good (part_doings z)) (sym w.1.1) g.good; clear = subst (λ (z : Option Statement). part_clear (option_map the_rest z) ≡ true) (sym w.1.1) g.clear };
        is = w.1.1;
      }

  part_met : (o : Option Known) (scope : Scope) (stand : Stand) (p : Position) (y : Option Statement) → PartGiven o scope stand p y → AreMet kept (part_needs (part_left o scope))
  part_met None scope stand p y g = tt
  part_met (Some q) scope stand p y g =
      let w = part_one q scope stand p y g in
      let l = (left kept raw q.0).gives scope in
      join_met kept l.needs (beyond l.some) (q.1.needs scope stand p w.value w.given) (beyond_met raw k rules f l (q.1.one scope stand p g.at g.syntax g.fine))

  part_goes : (o : Option Known) (scope : Scope) (stand : Stand) (p : Position) (y : Option Statement) → PartGiven o scope stand p y → part_stays (option_map the_rest y) ≡ false → AreMet kept (part_gone (part_left o scope))
  part_goes None scope stand p y g h = tt
  part_goes (Some q) scope stand p y g h =
      let w = part_one q scope stand p y g in
      gone_met raw k rules f ((left kept raw q.0).gives scope) (q.1.needs scope stand p w.value w.given) (q.1.none scope stand p w.value w.given (ap (λ (z : Option Statement). part_stays (option_map the_rest z)) w.is ∙ h))

  part_alone : (l : ℕ) (o : Option Known) (scope : Scope) (stand : Stand) (p : Position) (y : Option Statement) → PartGiven o scope stand p y → AreMet kept (left_alone l (part_left o scope)).needs
  part_alone l None scope stand p y g = tt
  part_alone l (Some q) scope stand p y g =
      let w = part_one q scope stand p y g in alone_met raw k rules f l ((left kept raw q.0).gives scope) (q.1.needs scope stand p w.value w.given) (q.1.one scope stand p g.at g.syntax g.fine)

  part_none : (l : ℕ) (o : Option Known) (scope : Scope) (stand : Stand) (p : Position) (y : Option Statement) → PartGiven o scope stand p y → part_stays (option_map the_rest y) ≡ false → (left_alone l (part_left o scope)).some ≡ []
  part_none l None scope stand p y g h = refl
  part_none l (Some q) scope stand p y g h =
      let w = part_one q scope stand p y g in
      alone_none raw k rules f l ((left kept raw q.0).gives scope) (q.1.none scope stand p w.value w.given (ap (λ (z : Option Statement). part_stays (option_map the_rest z)) w.is ∙ h))

  part_place : (o : Option Known) (scope : Scope) (stand : Stand) → AreFine raw (part_phrases o scope stand) → Place raw f scope → Place raw f (part_after o scope)
  part_place None scope stand fine place = place
  part_place (Some q) scope stand fine place = place_after raw f q.0 scope stand fine place

  rest_for : (id l : ℕ) (i : Option Statement) (u : Expr) (step : Option Statement) (b : List Statement)
      → the_rest (s.For id l i u step b) ≡ rest_step k.statement k.variable (Statement-F.For id l (option_map the_rest i) u (option_map the_rest step) (map the_rest b))
  rest_for id l None u None b = rest_is raw k rules f (Statement-F.For id l None u None b) (s.For id l None u None b) (s.rolls-For id l None u None b)
  rest_for id l None u (Some y) b = rest_is raw k rules f (Statement-F.For id l None u (Some y) b) (s.For id l None u (Some y) b) (s.rolls-For id l None u (Some y) b)
  rest_for id l (Some x) u None b = rest_is raw k rules f (Statement-F.For id l (Some x) u None b) (s.For id l (Some x) u None b) (s.rolls-For id l (Some x) u None b)
  rest_for id l (Some x) u (Some y) b = rest_is raw k rules f (Statement-F.For id l (Some x) u (Some y) b) (s.For id l (Some x) u (Some y) b) (s.rolls-For id l (Some x) u (Some y) b)

  module _ (i j : Option Known) (l : ℕ) (test : RawExpr) (b : List Known) (scope : Scope) where
    abbrev start : Scope
    start = opened (numbered scope)

    abbrev middle : Scope
    middle = part_after i start

    abbrev late : Scope
    late = part_after j middle

    abbrev for_given : Option Statement
    for_given = for_tree scope.statements l (part_given i start) (expr_of raw middle test) (part_given j middle) (block_tree (trees b) late)

    abbrev for_phrases : Phrases
    for_phrases = part_phrases i start InFor ++ (phrase l (text_after i start) (Tests test) ∷ (part_phrases j (text_after i start) InBlock ++ block_phrases (texts b) (text_after j (text_after i start))))

    abbrev for_syntax : Position → Bool
    for_syntax p = takes_compound p && (part_at Position.first (part_stands i) && (is_expr test && (part_at Position.step (part_stands j) && all_inner (map stands (rows b)))))

    abbrev left_at : Scope → Scope → Left
    left_at y z = for_left raw (keep scope.statements) l (part_left i start) test (part_left j y) (block_left kept raw (lefts b) z) y

    abbrev for_left_over : Left
    for_left_over = left_at (left_next i start) (left_next j (left_next i start))

    left_there : for_left_over ≡ left_at middle late
    left_there = ap₂ left_at (next_same i start) (ap (left_next j) (next_same i start) ∙ next_same j middle)

    record ForKnown (x : Statement) : Type 0 where
      init : Option Statement
      value : Expr
      step : Option Statement
      body : List Statement
      there : expr_of raw middle test ≡ Some value
      does : doings x ≡ Does scope.statements (TestsAct value) ∷ (part_doings init ++ (part_doings step ++ body_doings body))
      stays_is : (the_rest x).stays ≡ (keep scope.statements || part_stays (option_map the_rest init))
      governed : governs (keep scope.statements) (part_stays (option_map the_rest step) || any_stays (map the_rest body)) ≡ true
      first : PartGiven i start InFor Position.first init
      second : PartGiven j middle InBlock Position.step step
      inside : ListGiven b (opened late) InBlock body

    for_known : (x : Statement) (p : Position) → Place raw f scope → for_syntax p ≡ true → for_given ≡ Some x → AreFine raw for_phrases → Good (doings x) → (the_rest x).clear ≡ true → ForKnown x
    for_known x p place syntax tree fine good clear =
        let w = for_some scope.statements l (part_given i start) (expr_of raw middle test) (part_given j middle) (block_tree (trees b) late) x tree in
        let does : doings x ≡ Does scope.statements (TestsAct w.1) ∷ (part_doings w.0 ++ (part_doings w.2 ++ body_doings w.3)) = ap doings w.8 ∙ doings-For scope.statements l w.0 w.1 w.2 w.3 in
        let r = ap the_rest w.8 ∙ rest_for scope.statements l w.0 w.1 w.2 w.3 in
        let c = and_parts (governs (keep scope.statements) (part_stays (option_map the_rest w.2) || any_stays (map the_rest w.3))) (part_clear (option_map the_rest w.0) && (part_clear (option_map the_rest w.2) && all_clear (map the_rest w.3))) (sym (ap (λ (y : Rest). y.clear) r) ∙ clear) in
        let c1 = and_parts (part_clear (option_map the_rest w.0)) (part_clear (option_map the_rest w.2) && all_clear (map the_rest w.3)) c.1 in
        let c2 = and_parts (part_clear (option_map the_rest w.2)) (all_clear (map the_rest w.3)) c1.1 in
        let h1 = (and_parts (takes_compound p) (part_at Position.first (part_stands i) && (is_expr test && (part_at Position.step (part_stands j) && all_inner (map stands (rows b))))) syntax).1 in
        let h2 = and_parts (part_at Position.first (part_stands i)) (is_expr test && (part_at Position.step (part_stands j) && all_inner (map stands (rows b)))) h1 in
        let h3 = (and_parts (is_expr test) (part_at Position.step (part_stands j) && all_inner (map stands (rows b))) h2.1).1 in
        let h4 = and_parts (part_at Position.step (part_stands j)) (all_inner (map stands (rows b))) h3 in
        let all = (good_parts raw k rules f x (Does scope.statements (TestsAct w.1)) (part_doings w.0 ++ (part_doings w.2 ++ body_doings w.3)) does good).1 in
        let later = good_second raw k rules f (part_doings w.0) (part_doings w.2 ++ body_doings w.3) all in
        let fine_init = fine_first raw (part_phrases i start InFor) _ fine in
        let fine_later = (fine_second raw (part_phrases i start InFor) _ fine).1 in
        let middle_is = part_same i start in
        let fine_step : AreFine raw (part_phrases j middle InBlock) = subst (λ (z : Scope). AreFine raw (part_phrases j z InBlock)) (sym middle_is) (fine_first raw (part_phrases j (text_after i start) InBlock) _ fine_later) in
        let late_is : late ≡ text_after j (text_after i start) = ap (part_after j) middle_is ∙ part_same j (text_after i start) in
        let place_middle = part_place i start InFor fine_init place in
        record {
          init = w.0;
          value = w.1;
          step = w.2;
          body = w.3;
          there = w.5;
          does = does;
          stays_is = ap (λ (y : Rest). y.stays) r;
          governed = c.0;
          first = record { place = place; at = IsPartAt.in_first; syntax = h2.0; tree = w.4; fine = fine_init; good = good_first raw k rules f (part_doings w.0) (part_doings w.2 ++ body_doings w.3) all; clear = c1.0 };
          second = record { place = place_middle; at = IsPartAt.in_step; syntax = h4.0; tree = w.6; fine = fine_step; good = good_first raw k rules f (part_doings w.2) (body_doings w.3) later; clear = c2.0 };
          inside = record {
            place = part_place j middle InBlock fine_step place_middle;
            syntax = h4.1;
            tree = w.7;
            fine = subst (λ (z : Scope). AreFine raw (block_phrases (texts b) z)) (sym late_is) (fine_second raw (part_phrases j (text_after i start) InBlock) _ fine_later);
            good = good_second raw k rules f (part_doings w.2) (body_doings w.3) later;
            clear = c2.1;
          };
        }

    for_met : (x : Statement) (p : Position) → Place raw f scope → for_syntax p ≡ true → for_given ≡ Some x → AreFine raw for_phrases → Good (doings x) → (the_rest x).clear ≡ true → AreMet kept for_left_over.needs
    for_met x p place syntax tree fine good clear =
        let h = for_known x p place syntax tree fine good clear in
        let none = λ (t : keep scope.statements ≡ false). or_parts (part_stays (option_map the_rest h.step)) (any_stays (map the_rest h.body)) (ungoverned (keep scope.statements) _ h.governed t) in
        subst (λ (y : Left). AreMet kept y.needs) (sym left_there)
        (for_needs (keep scope.statements) l (part_left i start) test (part_left j middle) (all_left (in_order (lefts b) (opened late))) middle
        (λ c. tests_stay raw k middle test (expr_stays raw k middle test h.value h.there ((good_parts raw k rules f x (Does scope.statements (TestsAct h.value)) (part_doings h.init ++ (part_doings h.step ++ body_doings h.body)) h.does good).0 c).names))
        (part_met i start InFor Position.first h.init h.first) (part_met j middle InBlock Position.step h.step h.second) (list_needs b (opened late) InBlock h.body h.inside) (part_alone l i start InFor Position.first h.init h.first)
        (λ t. part_goes j middle InBlock Position.step h.step h.second (none t).0) (λ t. list_none b (opened late) InBlock h.body h.inside (none t).1))

    for_goes : (x : Statement) (p : Position) → Place raw f scope → for_syntax p ≡ true → for_given ≡ Some x → AreFine raw for_phrases → Good (doings x) → (the_rest x).clear ≡ true → (the_rest x).stays ≡ false → for_left_over.some ≡ []
    for_goes x p place syntax tree fine good clear q =
        let h = for_known x p place syntax tree fine good clear in
        let two = or_parts (keep scope.statements) (part_stays (option_map the_rest h.init)) (sym h.stays_is ∙ q) in
        ap (λ (y : Left). y.some) left_there
        ∙ for_none (keep scope.statements) l (part_left i start) test (part_left j middle) (all_left (in_order (lefts b) (opened late))) middle two.0 (part_none l i start InFor Position.first h.init h.first two.1)

  -- ---- all forms

  -- a statement without parts
  simple_case : (y : RawStatement-F RawStatement RawArm) → ((scope : Scope) (stand : Stand) (p : Position) (x : Statement) → Given (as_tree y) (as_text y) (as_stands y) scope stand p x → Simple raw k rules f x ((as_left y).gives scope))
      → ((scope : Scope) (stand : Stand) (p : Position) → At p stand → as_stands y p ≡ true → AreFine raw ((as_text y).gives scope stand) → Begins ((as_left y).gives scope)) → CaseAt y
  simple_case y h g = record { needs = λ scope stand p x given. (h scope stand p x given).needs; none = λ scope stand p x given q. (h scope stand p x given).none q; one = g }

  layer_case : (y : RawStatement-F Known KnownArm) → CaseAt (layer_of y)
  layer_case (RawStatement-F.Declare l v i) =
      simple_case (RawStatement-F.Declare l v i) (λ scope stand p x g. declare_simple raw k rules f l v i scope stand x g.fine (and_parts (takes_declaration p) (is_begun v i) g.syntax).1 g.tree g.good)
      (λ scope stand p at h fine. declare_begins raw k rules f l v i scope)
  layer_case (RawStatement-F.Assign l a op b) =
      simple_case (RawStatement-F.Assign l a op b) (λ scope stand p x g. assign_simple raw k rules f l a op b scope x g.tree g.good) (λ scope stand p at h fine. plain_begins raw k rules f (keep scope.statements) _ scope _)
  layer_case (RawStatement-F.Bump l a up before) =
      simple_case (RawStatement-F.Bump l a up before) (λ scope stand p x g. bump_simple raw k rules f l a up before scope x g.tree g.good) (λ scope stand p at h fine. plain_begins raw k rules f (keep scope.statements) _ scope _)
  layer_case (RawStatement-F.Call l to w args) =
      simple_case (RawStatement-F.Call l to w args)
      (λ scope stand p x g. call_simple raw k rules f l to w args scope stand x (target_fine raw k rules f l scope stand to _ g.fine) (target_place raw f l scope stand to _ g.fine g.place) (fine_second raw (target_phrases raw l scope stand to) _ g.fine).0.rules g.tree g.good)
      (λ scope stand p at h fine. call_begins raw k rules f l to w args scope stand p at (and_parts (is_target p to) _ h).0 (fine_second raw (target_phrases raw l scope stand to) _ fine).0.rules)
  layer_case (RawStatement-F.Heap l to cast n) =
      simple_case (RawStatement-F.Heap l to cast n) (λ scope stand p x g. heap_simple raw k rules f l to cast n scope stand x (target_fine raw k rules f l scope stand to _ g.fine) g.tree g.good) (λ scope stand p at h fine. heap_begins raw k rules f l to cast n scope)
  layer_case (RawStatement-F.If l test a b) = if_case l test a b
  layer_case (RawStatement-F.While l test b) = while_case l test b
  layer_case (RawStatement-F.Do l test b) = do_case l test b
  layer_case (RawStatement-F.For l None test None b) = record {
    needs = λ scope stand p x g. for_met None None l test b scope x p g.place g.syntax g.tree g.fine g.good g.clear;
    none = λ scope stand p x g q. for_goes None None l test b scope x p g.place g.syntax g.tree g.fine g.good g.clear q;
    one = λ scope stand p at h fine. no_part p stand _ at h;
  }
  layer_case (RawStatement-F.For l None test (Some j) b) = record {
    needs = λ scope stand p x g. for_met None (Some j) l test b scope x p g.place g.syntax g.tree g.fine g.good g.clear;
    none = λ scope stand p x g q. for_goes None (Some j) l test b scope x p g.place g.syntax g.tree g.fine g.good g.clear q;
    one = λ scope stand p at h fine. no_part p stand _ at h;
  }
  layer_case (RawStatement-F.For l (Some i) test None b) = record {
    needs = λ scope stand p x g. for_met (Some i) None l test b scope x p g.place g.syntax g.tree g.fine g.good g.clear;
    none = λ scope stand p x g q. for_goes (Some i) None l test b scope x p g.place g.syntax g.tree g.fine g.good g.clear q;
    one = λ scope stand p at h fine. no_part p stand _ at h;
  }
  layer_case (RawStatement-F.For l (Some i) test (Some j) b) = record {
    needs = λ scope stand p x g. for_met (Some i) (Some j) l test b scope x p g.place g.syntax g.tree g.fine g.good g.clear;
    none = λ scope stand p x g q. for_goes (Some i) (Some j) l test b scope x p g.place g.syntax g.tree g.fine g.good g.clear q;
    one = λ scope stand p at h fine. no_part p stand _ at h;
  }
  layer_case (RawStatement-F.Switch l test arms) = switch_case l test arms
  layer_case (RawStatement-F.Block l b) = block_case l b
  layer_case (RawStatement-F.Return l a) =
      simple_case (RawStatement-F.Return l a) (λ scope stand p x g. return_simple raw k rules f l a scope x g.place g.tree g.good) (λ scope stand p at h fine. no_return p stand _ at h)

  record ArmKnown (y : RawArm-F Known KnownArm) (scope : Scope) (i : IntType) (a : Arm) : Type 0 where
    labels : List Label
    body : List Statement
    labels_there : collected (map (label_tree raw scope i) y.labels) ≡ Some labels
    stays_is : (the_arm_rest a).stays ≡ any_stays (map the_rest body)
    inside : ListGiven y.body scope InArm body

  arm_known : (y : RawArm-F Known KnownArm) (scope : Scope) (i : IntType) (a : Arm) → ArmGiven (as_arm_tree (arm_layer_of y)) (as_arm_text (arm_layer_of y)) (as_arm (arm_layer_of y)) scope i a → ArmKnown y scope i a
  arm_known y scope i a g =
      let z = both_there arm_tree (collected (map (label_tree raw scope i) y.labels)) (collected (in_order (trees y.body) scope)) a g.tree in
      let r = ap the_arm_rest (sym z.same) ∙ arm_rest_is raw k rules f (arm_tree z.left z.right) in
      let h1 = (and_parts (is_there y.labels) (list_all is_label y.labels && all_inner (map stands (rows y.body))) g.syntax).1 in
      record {
        labels = z.left;
        body = z.right;
        labels_there = z.left_there;
        stays_is = ap (λ (q : Rest). q.stays) r;
        inside = record {
          place = g.place;
          syntax = (and_parts (list_all is_label y.labels) (all_inner (map stands (rows y.body))) h1).1;
          tree = z.right_there;
          fine = g.fine;
          good = subst (λ (w : Arm). Good (body_doings w.body)) (sym z.same) g.good;
          clear = sym (ap (λ (q : Rest). q.clear) r) ∙ g.clear;
        };
      }

  -- the place behind some statements
  list_place : (ks : List Known) (scope : Scope) (stand : Stand) (zs : List Statement) → ListGiven ks scope stand zs → Place raw f (after_all (trees ks) scope)
  list_place [] scope stand zs g = g.place
  list_place (q ∷ ks) scope stand zs g = let w = split q ks scope stand zs g in list_place ks ((treed raw q.0).after scope) stand w.rest w.more

  lists_same : (xs : List RawStatement) (scope : Scope) → after_all (map (left kept raw) xs) scope ≡ after_all (map (treed raw) xs) scope
  lists_same [] scope = refl
  lists_same (x ∷ xs) scope = ap (after_all (map (left kept raw) xs)) (left_same x scope) ∙ lists_same xs ((treed raw x).after scope)

  arm_case : (y : RawArm-F Known KnownArm) → ArmCase (as_arm_tree (arm_layer_of y)) (as_arm_text (arm_layer_of y)) (as_arm_left (arm_layer_of y)) (as_arm (arm_layer_of y))
  arm_case y = record {
    needs = λ scope i a g. let h = arm_known y scope i a g in list_needs y.body scope InArm h.body h.inside;
    none = λ scope i a g q. let h = arm_known y scope i a g in list_none y.body scope InArm h.body h.inside (sym h.stays_is ∙ q);
    nameless = λ scope i a g. let h = arm_known y scope i a g in labels_name raw scope i y.labels h.labels h.labels_there;
    later = λ scope i a g. let h = arm_known y scope i a g in list_place y.body scope InArm h.body h.inside;
    left_same = λ scope. lists_same (rows y.body) scope;
    text_same = λ scope. list_after raw (rows y.body) scope;
  }

  statement_case : (one : RawStatement) → Case (treed raw one) (scoped raw one) (left kept raw one) (stands one)
  statement_case =
      ind-RawStatement (λ one. Case (treed raw one) (scoped raw one) (left kept raw one) (stands one)) (λ a. ArmCase (treed_arm raw a) (scoped_of_arm raw a) (left_arm kept raw a) (is_arm a))
      (λ z y is. subst (λ w. Case (treed raw (roll-RawStatement w)) (scoped raw (roll-RawStatement w)) (left kept raw (roll-RawStatement w)) (stands (roll-RawStatement w))) is (rolled (layer_of y) (layer_case y)))
      (λ z y is. subst (λ w. ArmCase (treed_arm raw (roll-RawArm w)) (scoped_of_arm raw (roll-RawArm w)) (left_arm kept raw (roll-RawArm w)) (is_arm (roll-RawArm w))) is (arm_rolled (arm_layer_of y) (arm_case y)))
    where
      rolled : (o : RawStatement-F RawStatement RawArm) → CaseAt o → Case (treed raw (roll-RawStatement o)) (scoped raw (roll-RawStatement o)) (left kept raw (roll-RawStatement o)) (stands (roll-RawStatement o))
      rolled o h =
          subst (λ t. Case t (scoped raw (roll-RawStatement o)) (left kept raw (roll-RawStatement o)) (stands (roll-RawStatement o))) (sym (fold-roll-RawStatement (Scoped (Option Statement)) (Scoped ArmTree) (treed_step raw) (arm_tree_step raw) o))
          (subst (λ w. Case (as_tree o) w (left kept raw (roll-RawStatement o)) (stands (roll-RawStatement o))) (sym (fold-roll-RawStatement (Scoped (Stand → Phrases)) (Scoped ArmText) (scoped_step raw) scoped_arm o))
          (subst (λ u. Case (as_tree o) (as_text o) u (stands (roll-RawStatement o))) (sym (fold-roll-RawStatement (Scoped Left) (Scoped ArmLeft) (left_scoped kept raw) (left_arm_step kept raw) o))
          (subst (λ v. Case (as_tree o) (as_text o) (as_left o) v) (sym (fold-roll-RawStatement (Position → Bool) Bool stands_step arm_step o)) h)))

      arm_rolled : (o : RawArm-F RawStatement RawArm) → ArmCase (as_arm_tree o) (as_arm_text o) (as_arm_left o) (as_arm o) → ArmCase (treed_arm raw (roll-RawArm o)) (scoped_of_arm raw (roll-RawArm o)) (left_arm kept raw (roll-RawArm o)) (is_arm (roll-RawArm o))
      arm_rolled o h =
          subst (λ t. ArmCase t (scoped_of_arm raw (roll-RawArm o)) (left_arm kept raw (roll-RawArm o)) (is_arm (roll-RawArm o))) (sym (fold-roll-RawArm (Scoped (Option Statement)) (Scoped ArmTree) (treed_step raw) (arm_tree_step raw) o))
          (subst (λ w. ArmCase (as_arm_tree o) w (left_arm kept raw (roll-RawArm o)) (is_arm (roll-RawArm o))) (sym (fold-roll-RawArm (Scoped (Stand → Phrases)) (Scoped ArmText) (scoped_step raw) scoped_arm o))
          (subst (λ u. ArmCase (as_arm_tree o) (as_arm_text o) u (is_arm (roll-RawArm o))) (sym (fold-roll-RawArm (Scoped Left) (Scoped ArmLeft) (left_scoped kept raw) (left_arm_step kept raw) o))
          (subst (λ v. ArmCase (as_arm_tree o) (as_arm_text o) (as_arm_left o) v) (sym (fold-roll-RawArm (Position → Bool) Bool stands_step arm_step o)) h)))

  -- ---- a body

  -- what is known of the body of a function
  pub record BodyGiven (xs : List RawStatement) (scope : Scope) (zs : List Statement) : Type 0 where
    pub place : Place raw f scope
    pub syntax : is_body xs ≡ true
    pub tree : body_of raw xs scope ≡ Some zs
    pub fine : AreFine raw (body_phrases raw xs scope)
    pub good : Good (body_doings zs)
    pub clear : all_clear (map the_rest zs) ≡ true

  record BodySplit (x : RawStatement) (xs : List RawStatement) (scope : Scope) (zs : List Statement) : Type 0 where
    first : Statement
    rest : List Statement
    position : Position
    one : Given (treed raw x) (scoped raw x) (stands x) scope InBlock position first
    more : BodyGiven xs ((treed raw x).after scope) rest
    is : first ∷ rest ≡ zs

  -- the first stands inside, or ends the body
  record BodyStands (x : RawStatement) (xs : List RawStatement) : Type 0 where
    position : Position
    here : stands x position ≡ true
    later : is_body xs ≡ true

  body_stands : (x : RawStatement) (xs : List RawStatement) → is_body (x ∷ xs) ≡ true → BodyStands x xs
  body_stands x [] h = record { position = Position.final; here = h; later = refl }
  body_stands x (y ∷ xs) h = let b = and_parts (stands x Position.inner) (is_body (y ∷ xs)) h in record { position = Position.inner; here = b.0; later = b.1 }

  body_split : (x : RawStatement) (xs : List RawStatement) (scope : Scope) (zs : List Statement) → BodyGiven (x ∷ xs) scope zs → BodySplit x xs scope zs
  body_split x xs scope zs g =
      let next = (treed raw x).after scope in
      let behind = (scoped raw x).after scope in
      let here = (scoped raw x).gives scope InBlock in
      let z = more_there ((treed raw x).gives scope) (in_order (map (treed raw) xs) next) zs g.tree in
      let b = body_stands x xs g.syntax in
      let c = and_parts (the_rest z.first).clear (all_clear (map the_rest z.rest)) (ap (λ (ys : List Statement). all_clear (map the_rest ys)) z.same ∙ g.clear) in
      let good : Good (doings z.first ++ body_doings z.rest) = subst (λ (ys : List Statement). Good (body_doings ys)) (sym z.same) g.good in
      let fine = fine_first raw here (body_phrases raw xs behind) g.fine in
      record {
        first = z.first;
        rest = z.rest;
        position = b.position;
        one = record { place = g.place; syntax = b.here; tree = z.first_there; fine = fine; good = good_first raw k rules f (doings z.first) (body_doings z.rest) good; clear = c.0 };
        more = record {
          place = place_after raw f x scope InBlock fine g.place;
          syntax = b.later;
          tree = z.rest_there;
          fine = subst (λ (y : Scope). AreFine raw (body_phrases raw xs y)) (sym (after_same raw x scope)) (fine_second raw here (body_phrases raw xs behind) g.fine);
          good = good_second raw k rules f (doings z.first) (body_doings z.rest) good;
          clear = c.1;
        };
        is = z.same;
      }

  -- what is kept of a body has what it needs
  pub body_met : (xs : List RawStatement) (scope : Scope) (zs : List Statement) → BodyGiven xs scope zs → AreMet kept (body_left kept raw xs scope).needs
  body_met [] scope zs g = tt
  body_met (x ∷ xs) scope zs g =
      let w = body_split x xs scope zs g in
      subst (λ (y : Scope). AreMet kept (all_left ((left kept raw x).gives scope ∷ in_order (map (left kept raw) xs) y)).needs) (sym (left_same x scope))
      (join_met kept ((left kept raw x).gives scope).needs (body_left kept raw xs ((treed raw x).after scope)).needs ((statement_case x).needs scope InBlock w.position w.first w.one) (body_met xs ((treed raw x).after scope) w.rest w.more))

  -- and nothing is left of one of which nothing stays
  pub body_none : (xs : List RawStatement) (scope : Scope) (zs : List Statement) → BodyGiven xs scope zs → any_stays (map the_rest zs) ≡ false → (body_left kept raw xs scope).some ≡ []
  body_none [] scope zs g h = refl
  body_none (x ∷ xs) scope zs g h =
      let w = body_split x xs scope zs g in
      let b = or_parts (the_rest w.first).stays (any_stays (map the_rest w.rest)) (ap (λ (ys : List Statement). any_stays (map the_rest ys)) w.is ∙ h) in
      subst (λ (y : Scope). (all_left ((left kept raw x).gives scope ∷ in_order (map (left kept raw) xs) y)).some ≡ []) (sym (left_same x scope))
      (ap₂ (λ (as_ bs : List RawStatement). as_ ++ bs) ((statement_case x).none scope InBlock w.position w.first w.one b.0) (body_none xs ((treed raw x).after scope) w.rest w.more b.1))
