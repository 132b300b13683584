-- What the walk does at each form of statement that holds others, step by step.
use Rattle.std.proofs.Common.{◌≡◌, ℕ, List, [], ◌∷◌, ◌++◌, map, length, take, Option, Some, None, option_map, option_and_then, refl, sym, ap, subst, ◌∙◌}
use Rattle.c_tree.specs.declared.expr.Expr.{Expr}
use Rattle.c_tree.specs.declared.statement.Statement.{Statement}
use Rattle.c_tree.specs.declared.statement.Statement.TheVariants as made
use Rattle.c_tree.specs.declared.raw.expr.RawExpr.{RawExpr}
use Rattle.c_tree.specs.declared.raw.program.RawProgram.{RawProgram}
use Rattle.c_tree.specs.declared.raw.statement.RawArm.{RawArm}
use Rattle.c_tree.specs.declared.raw.statement.RawStatement.{RawStatement}
use Rattle.c_tree.specs.declared.raw.statement.RawStatement.TheVariants as s
use Rattle.c_language.specs.ConstantEvaluation.{both}
use Rattle.c_language.specs.Rules.{BreaksNone}
use Rattle.c_language.specs.Scopes.{Scope, Scoped, opened, closed, numbered, in_order, after_all, after_block, after_part, part_gives}
use Rattle.c_language.specs.Phrases.{Stand, InBlock, Tests, Phrases, phrase, ArmText, joined_at, block_phrases, at_stand, scoped, scoped_of_arm, IsInside}
use Rattle.c_language.specs.ProgramOf.{collected, expr_of, ArmTree, arm_tree_step, tree_step, treed, block_tree, part_tree, variables_in, treed_arm}
use Rattle.c_language.proofs.TreedForms.{treed-If, treed-While, treed-Do, treed-Block}
use Rattle.c_language.proofs.ScopedForms.{scoped-If, scoped-While, scoped-Do, scoped-Block}
use Rattle.c_language.proofs.PhraseLists.{variables-append}
use Rattle.c_language.proofs.TreeScopes.{list_after, block_after_same}
use Rattle.c_types_base.specs.Tables.{scope_of, AreRight, IsAt}
use Rattle.c_types_base.proofs.ScopeLaws.{Extends, stays, then_extends, front, block_extends, statement_grows}
use Rattle.c_types_program.specs.declared.walk.Walk.{Walk}
use Rattle.c_types_trees.specs.FitPhrases.{AreFit, AreFitInside, IsFitPart}
use Rattle.c_types_program.specs.Statements.{Comes, Fits, HasTree, Passes, FitAll, HaveTrees, PassesAll, FitsBlock, HasBlock, PassesBlock, FitsPart, HasPart, PassesPart}
use Rattle.c_types_program.specs.Variables.{Grow}
use Rattle.c_types_program.proofs.Growing.{grow_none, grow_then, fit_both}
use Rattle.c_types_program.proofs.Standing.{Stands, here, told, given, goes, came}
use Rattle.c_types_program.proofs.StatementForms.{treed-arm, scoped-arm}

-- ---- scopes

module _ (raw : RawProgram) where
  pub same_arm : (a : RawArm) (scope : Scope) → (treed_arm raw a).after scope ≡ (scoped_of_arm raw a).after scope
  same_arm a scope =
      ap (λ (x : Scoped ArmTree). x.after scope) (treed-arm raw a.labels a.body)
      ∙ (list_after raw a.body scope ∙ sym (ap (λ (x : Scoped ArmText). x.after scope) (scoped-arm raw a.labels a.body)))

  -- the names before stand at the front of those after
  pub one_extends : (one : RawStatement) (scope : Scope) → Extends scope ((treed raw one).after scope)
  one_extends one scope = statement_grows {R = Option Statement} {Q = ArmTree} raw (tree_step raw) (λ a. (arm_tree_step raw a).gives) one scope

  pub all_extend : (body : List RawStatement) (scope : Scope) → Extends scope (after_all (map (treed raw) body) scope)
  all_extend [] scope = stays scope
  all_extend (a ∷ body) scope =
      then_extends scope ((treed raw a).after scope) (after_all (map (treed raw) body) ((treed raw a).after scope)) (one_extends a scope) (all_extend body ((treed raw a).after scope))

  pub body_extends : (body : List RawStatement) (scope : Scope) → Extends scope (after_block (map (treed raw) body) scope)
  body_extends body scope = block_extends raw scope (after_all (map (treed raw) body) (opened scope)) (all_extend body (opened scope))

  pub part_extends : (part : Option RawStatement) (scope : Scope) → Extends scope (after_part (option_map (treed raw) part) scope)
  part_extends None scope = stays scope
  part_extends (Some one) scope = one_extends one scope

  pub arm_extends : (a : RawArm) (scope : Scope) → Extends scope ((treed_arm raw a).after scope)
  arm_extends a scope = subst (λ (x : Scoped ArmTree). Extends scope (x.after scope)) (sym (treed-arm raw a.labels a.body)) (all_extend a.body scope)

  pub arms_extend : (arms : List RawArm) (scope : Scope) → Extends scope (after_all (map (treed_arm raw) arms) scope)
  arms_extend [] scope = stays scope
  arms_extend (a ∷ arms) scope =
      then_extends scope ((treed_arm raw a).after scope) (after_all (map (treed_arm raw) arms) ((treed_arm raw a).after scope)) (arm_extends a scope) (arms_extend arms ((treed_arm raw a).after scope))

-- a block is closed by cutting the names
abbrev pub cut : ℕ → ℕ → Option ℕ → Scope → Scope
cut names outer owner scope = record scope { names = take names scope.names; outer = outer; owner = owner }

pub cut_closes : (x y : Scope) (names outer : ℕ) (owner : Option ℕ) → names ≡ length x.names → outer ≡ x.outer → owner ≡ x.owner
    → take (length x.names) y.names ≡ x.names → cut names outer owner y ≡ closed x y
cut_closes x y names outer owner n o w f =
    ap (λ (k : ℕ). cut k outer owner y) n
    ∙ (ap (λ (k : ℕ). cut (length x.names) k owner y) o
    ∙ (ap (λ (k : Option ℕ). cut (length x.names) x.outer k y) w
    ∙ ap (λ ns. record y { names = ns; outer = x.outer; owner = x.owner }) f))

-- ---- a statement by the equations of its form

abbrev Text : Type 0
Text = Scoped (Stand → Phrases)

abbrev Tree : Type 0
Tree = Scoped (Option Statement)

pub fits_as : (w : Walk) (one : RawStatement) (y : Text) → scoped w.tables.raw.now one ≡ y → (h : Fits w one) → AreFit w.tables.raw.now (y.gives (scope_of w.tables) h.stand)
fits_as w one y is h = subst (λ (z : Text). AreFit w.tables.raw.now (z.gives (scope_of w.tables) h.stand)) is h.fit

pub tree_as : (w : Walk) (one : RawStatement) (x : Tree) (t : Statement) → treed w.tables.raw.now one ≡ x → x.gives (scope_of w.tables) ≡ Some t → HasTree w one t
tree_as w one x t is h = ap (λ (z : Tree). z.gives (scope_of w.tables)) is ∙ h

pub passes_as : (w v : Walk) (one : RawStatement) (x : Tree) (y : Text) → treed w.tables.raw.now one ≡ x → scoped w.tables.raw.now one ≡ y
    → ((stand : Stand) → IsInside stand → Comes w v (x.after (scope_of w.tables)) (variables_in w.tables.raw.now (y.gives (scope_of w.tables) stand))) → Passes w v one
passes_as w v one x y e f h =
    λ stand inside.
    subst (λ (z : Tree). Comes w v (z.after (scope_of w.tables)) (variables_in w.tables.raw.now ((scoped w.tables.raw.now one).gives (scope_of w.tables) stand))) (sym e)
    (subst (λ (z : Text). Comes w v (x.after (scope_of w.tables)) (variables_in w.tables.raw.now (z.gives (scope_of w.tables) stand))) (sym f) (h stand inside))

-- ---- blocks

-- the walk stands at a place
abbrev pub StandsAt : RawProgram → Scope → Walk → Type 0
StandsAt raw scope w = Stands raw scope w.tables

module _ {raw : RawProgram} {scope : Scope} (w : Walk) (stands : StandsAt raw scope w) where
  pub block_given : (body : List RawStatement) → AreFit raw (block_phrases (map (scoped raw) body) scope) → FitsBlock w body
  block_given body = given (λ r x. AreFit r (block_phrases (map (scoped r) body) x)) stands

  pub block_told : (body : List RawStatement) (xs : List Statement) → HasBlock w body xs → block_tree (map (treed raw) body) scope ≡ Some xs
  block_told body xs = told (λ r x. block_tree (map (treed r) body) x ≡ Some xs) stands

  pub block_goes : (v : Walk) (body : List RawStatement) → PassesBlock w v body → StandsAt raw (after_block (map (treed raw) body) scope) v
  block_goes v body passes = goes (λ r x. after_block (map (treed r) body) x) stands passes.arrives

  pub block_grows : (v : Walk) (body : List RawStatement) → PassesBlock w v body → Grow w.variables v.variables (variables_in raw (block_phrases (map (scoped raw) body) scope))
  block_grows v body passes = told (λ r x. Grow w.variables v.variables (variables_in r (block_phrases (map (scoped r) body) x))) stands passes.grow

  pub test_given : (e : RawExpr) → BreaksNone raw scope (Tests e) → BreaksNone w.tables.raw.now (scope_of w.tables) (Tests e)
  test_given e = given (λ r x. BreaksNone r x (Tests e)) stands

  pub test_told : (e : RawExpr) (x : Expr) → expr_of w.tables.raw.now (scope_of w.tables) e ≡ Some x → expr_of raw scope e ≡ Some x
  test_told e x = told (λ r y. expr_of r y e ≡ Some x) stands

  pub part_given : (part : Option RawStatement) → IsFitPart raw part scope → FitsPart w part
  part_given part = given (λ r x. IsFitPart r part x) stands

  pub part_told : (part : Option RawStatement) (x : Option Statement) → HasPart w part x → part_tree (option_map (treed raw) part) scope ≡ Some x
  part_told part x = told (λ r y. part_tree (option_map (treed r) part) y ≡ Some x) stands

  pub part_goes : (v : Walk) (part : Option RawStatement) → PassesPart w v part → StandsAt raw (after_part (option_map (treed raw) part) scope) v
  part_goes v part passes = goes (λ r x. after_part (option_map (treed r) part) x) stands (passes InBlock tt).arrives

  pub part_grows : (v : Walk) (part : Option RawStatement) (stand : Stand) → IsInside stand → PassesPart w v part
      → Grow w.variables v.variables (variables_in raw (at_stand stand (part_gives (option_map (scoped raw) part) scope)))
  part_grows v part stand inside passes =
      told (λ r x. Grow w.variables v.variables (variables_in r (at_stand stand (part_gives (option_map (scoped r) part) x)))) stands (passes stand inside).grow

-- what is done with the names and the numbers alone makes no variable
pub same_variables : (a b : Walk) → b.variables ≡ a.variables → Grow a.variables b.variables []
same_variables a b is = subst (λ v. Grow a.variables v []) (sym is) (grow_none a.variables)

module _ (w : Walk) (right : AreRight w.tables) (body : List RawStatement) where
  abbrev raw_here : RawProgram
  raw_here = w.tables.raw.now

  abbrev scope_here : Scope
  scope_here = scope_of w.tables

  opens : (u : Walk) → IsAt w.tables u.tables (opened scope_here) → StandsAt raw_here (opened scope_here) u
  opens u is = goes (λ r x. opened x) (here w.tables right) is

  pub block_fits : (u : Walk) → IsAt w.tables u.tables (opened scope_here) → FitsBlock w body → FitAll u body
  block_fits u is h = given (λ r x. AreFitInside r body x) (opens u is) (record { stand = InBlock; inside = tt; fit = h })

  pub block_has : (u : Walk) (xs : List Statement) → IsAt w.tables u.tables (opened scope_here) → HaveTrees u body xs → HasBlock w body xs
  block_has u xs is h = told (λ r x. collected (in_order (map (treed r) body) x) ≡ Some xs) (opens u is) h

  pub block_passes : (u v z : Walk) (names outer : ℕ) (owner : Option ℕ)
      → names ≡ length scope_here.names → outer ≡ scope_here.outer → owner ≡ scope_here.owner
      → IsAt w.tables u.tables (opened scope_here) → u.variables ≡ w.variables → PassesAll u v body
      → IsAt v.tables z.tables (cut names outer owner (scope_of v.tables)) → z.variables ≡ v.variables → PassesBlock w z body
  block_passes u v z names outer owner n o f is same passes closes last =
      let inside = opens u is in
      let through = passes InBlock tt in
      let after = after_all (map (treed raw_here) body) (opened scope_here) in
      let end = goes {t = v.tables} {u = z.tables} (λ r x. cut names outer owner x) (goes (λ r x. after_all (map (treed r) body) x) inside through.arrives) closes in
      record {
        arrives = came end (cut_closes scope_here after names outer owner n o f (front (opened scope_here) after (all_extend raw_here body (opened scope_here))));
        grow =
            subst (λ a. Grow a z.variables (variables_in raw_here (block_phrases (map (scoped raw_here) body) scope_here))) same
            (subst (λ b. Grow u.variables b (variables_in raw_here (block_phrases (map (scoped raw_here) body) scope_here))) (sym last)
            (told (λ r x. Grow u.variables v.variables (variables_in r (joined_at InBlock (in_order (map (scoped r) body) x)))) inside through.grow));
      }

  -- a block by itself
  pub bare_fits : (l : ℕ) → Fits w (s.Block l body) → FitsBlock w body
  bare_fits l h = fits_as w (s.Block l body) _ (scoped-Block raw_here l body) h

  pub bare_tree : (l : ℕ) (xs : List Statement) → HasBlock w body xs → HasTree w (s.Block l body) (made.Block l xs)
  bare_tree l xs h = tree_as w (s.Block l body) _ (made.Block l xs) (treed-Block raw_here l body) (ap (option_map (made.Block l)) h)

  pub bare_passes : (v : Walk) (l : ℕ) → PassesBlock w v body → Passes w v (s.Block l body)
  bare_passes v l h = passes_as w v (s.Block l body) _ _ (treed-Block raw_here l body) (scoped-Block raw_here l body) (λ stand inside. h)

  -- a while and a do
  module _ (l : ℕ) (e : RawExpr) where
    while_phrases : Fits w (s.While l e body) → AreFit raw_here (phrase l scope_here (Tests e) ∷ block_phrases (map (scoped raw_here) body) (numbered scope_here))
    while_phrases h = fits_as w (s.While l e body) _ (scoped-While raw_here l e body) h

    do_phrases : Fits w (s.Do l e body) → AreFit raw_here (phrase l scope_here (Tests e) ∷ block_phrases (map (scoped raw_here) body) (numbered scope_here))
    do_phrases h = fits_as w (s.Do l e body) _ (scoped-Do raw_here l e body) h

    pub while_test : Fits w (s.While l e body) → BreaksNone raw_here scope_here (Tests e)
    while_test h = (while_phrases h).0.kept

    pub do_test : Fits w (s.Do l e body) → BreaksNone raw_here scope_here (Tests e)
    do_test h = (do_phrases h).0.kept

    module _ (u : Walk) (is : IsAt w.tables u.tables (numbered scope_here)) where
      abbrev counts : StandsAt raw_here (numbered scope_here) u
      counts = goes (λ r x. numbered x) (here w.tables right) is

      pub while_body : Fits w (s.While l e body) → FitsBlock u body
      while_body h = block_given u counts body (while_phrases h).1

      pub do_body : Fits w (s.Do l e body) → FitsBlock u body
      do_body h = block_given u counts body (do_phrases h).1

      both_trees : {A : Type 0} (f : Expr → List Statement → A) (x : Expr) (xs : List Statement) → expr_of raw_here scope_here e ≡ Some x → HasBlock u body xs
          → both f (expr_of raw_here scope_here e) (block_tree (map (treed raw_here) body) (numbered scope_here)) ≡ Some (f x xs)
      both_trees f x xs h k = ap (λ o. both f o (block_tree (map (treed raw_here) body) (numbered scope_here))) h ∙ ap (option_map (f x)) (block_told u counts body xs k)

      pub while_tree : (id : ℕ) (x : Expr) (xs : List Statement) → id ≡ w.tables.statements → expr_of raw_here scope_here e ≡ Some x → HasBlock u body xs
          → HasTree w (s.While l e body) (made.While id l x xs)
      while_tree id x xs number h k =
          tree_as w (s.While l e body) _ (made.While id l x xs) (treed-While raw_here l e body)
          (both_trees (made.While w.tables.statements l) x xs h k ∙ ap (λ n. Some (made.While n l x xs)) (sym number))

      pub do_tree : (id : ℕ) (x : Expr) (xs : List Statement) → id ≡ w.tables.statements → expr_of raw_here scope_here e ≡ Some x → HasBlock u body xs
          → HasTree w (s.Do l e body) (made.Do id l x xs)
      do_tree id x xs number h k =
          tree_as w (s.Do l e body) _ (made.Do id l x xs) (treed-Do raw_here l e body)
          (both_trees (made.Do w.tables.statements l) x xs h k ∙ ap (λ n. Some (made.Do n l x xs)) (sym number))

      loop_comes : (v : Walk) → u.variables ≡ w.variables → PassesBlock u v body
          → Comes w v (after_block (map (treed raw_here) body) (numbered scope_here)) (variables_in raw_here (block_phrases (map (scoped raw_here) body) (numbered scope_here)))
      loop_comes v same h = record {
        arrives = came (block_goes u counts v body h) refl;
        grow = grow_then (same_variables w u same) (block_grows u counts v body h);
      }

      pub while_passes : (v : Walk) → u.variables ≡ w.variables → PassesBlock u v body → Passes w v (s.While l e body)
      while_passes v same h = passes_as w v (s.While l e body) _ _ (treed-While raw_here l e body) (scoped-While raw_here l e body) (λ stand inside. loop_comes v same h)

      pub do_passes : (v : Walk) → u.variables ≡ w.variables → PassesBlock u v body → Passes w v (s.Do l e body)
      do_passes v same h = passes_as w v (s.Do l e body) _ _ (treed-Do raw_here l e body) (scoped-Do raw_here l e body) (λ stand inside. loop_comes v same h)

-- ---- an if

module _ (w : Walk) (right : AreRight w.tables) (l : ℕ) (e : RawExpr) (a b : List RawStatement) where
  abbrev raw_of : RawProgram
  raw_of = w.tables.raw.now

  abbrev begin : Scope
  begin = scope_of w.tables

  abbrev between : Scope
  between = after_block (map (treed raw_of) a) (numbered begin)

  if_phrases : Fits w (s.If l e a b)
      → AreFit raw_of (phrase l begin (Tests e) ∷ (block_phrases (map (scoped raw_of) a) (numbered begin) ++ block_phrases (map (scoped raw_of) b) (after_block (map (scoped raw_of) a) (numbered begin))))
  if_phrases h = fits_as w (s.If l e a b) _ (scoped-If raw_of l e a b) h

  pub if_test : Fits w (s.If l e a b) → BreaksNone raw_of begin (Tests e)
  if_test h = (if_phrases h).0.kept

  if_parts : Fits w (s.If l e a b)
      → AreFit raw_of (block_phrases (map (scoped raw_of) a) (numbered begin)) × AreFit raw_of (block_phrases (map (scoped raw_of) b) between)
  if_parts h =
      let parts = fit_both raw_of (block_phrases (map (scoped raw_of) a) (numbered begin)) (block_phrases (map (scoped raw_of) b) (after_block (map (scoped raw_of) a) (numbered begin))) (if_phrases h).1 in
      (parts.0, subst (λ x. AreFit raw_of (block_phrases (map (scoped raw_of) b) x)) (sym (block_after_same raw_of a (numbered begin))) parts.1)

  module _ (u : Walk) (is : IsAt w.tables u.tables (numbered begin)) where
    abbrev numbers : StandsAt raw_of (numbered begin) u
    numbers = goes (λ r x. numbered x) (here w.tables right) is

    pub if_first : Fits w (s.If l e a b) → FitsBlock u a
    if_first h = block_given u numbers a (if_parts h).0

    module _ (v : Walk) (first : PassesBlock u v a) where
      abbrev halfway : StandsAt raw_of between v
      halfway = block_goes u numbers v a first

      pub if_second : Fits w (s.If l e a b) → FitsBlock v b
      if_second h = block_given v halfway b (if_parts h).1

      pub if_tree : (id : ℕ) (x : Expr) (p q : List Statement) → id ≡ w.tables.statements → expr_of raw_of begin e ≡ Some x → HasBlock u a p → HasBlock v b q
          → HasTree w (s.If l e a b) (made.If id l x p q)
      if_tree id x p q number h k m =
          let f = made.If w.tables.statements l in
          tree_as w (s.If l e a b) _ (made.If id l x p q) (treed-If raw_of l e a b)
          (if_joined (expr_of raw_of begin e) (block_tree (map (treed raw_of) a) (numbered begin)) (block_tree (map (treed raw_of) b) between) x p q h
          (block_told u numbers a p k) (block_told v halfway b q m)
          ∙ ap (λ n. Some (made.If n l x p q)) (sym number))
        where
          if_joined : (o : Option Expr) (g : Option (List Statement)) (z : Option (List Statement)) (x : Expr) (p q : List Statement) → o ≡ Some x → g ≡ Some p → z ≡ Some q
              → option_and_then (λ (y : Expr). both (made.If w.tables.statements l y) g z) o ≡ Some (made.If w.tables.statements l x p q)
          if_joined o g z x p q h k m = rw (h, k, m) refl

      pub if_passes : (z : Walk) → u.variables ≡ w.variables → PassesBlock v z b → Passes w z (s.If l e a b)
      if_passes z same second =
          passes_as w z (s.If l e a b) _ _ (treed-If raw_of l e a b) (scoped-If raw_of l e a b) (λ stand inside. record {
            arrives = came (block_goes v halfway z b second) refl;
            grow =
                subst (Grow w.variables z.variables) (sym (variables-append raw_of (block_phrases (map (scoped raw_of) a) (numbered begin)) (block_phrases (map (scoped raw_of) b) (after_block (map (scoped raw_of) a) (numbered begin)))))
                (grow_then (grow_then (same_variables w u same) (block_grows u numbers v a first))
                (subst (λ x. Grow v.variables z.variables (variables_in raw_of (block_phrases (map (scoped raw_of) b) x))) (block_after_same raw_of a (numbered begin)) (block_grows v halfway z b second)));
          })
