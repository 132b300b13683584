-- Going along a list of statements and the thinner one: the variables that are declared are those that stay.
use Rattle.std.proofs.Common.{◌≡◌, ℕ, ◌+◌, List, [], ◌∷◌, ◌++◌, map, true, false, Option, Some, option_map, refl, sym, ap, subst, ◌∙◌}
use Rattle.c_tree.specs.declared.raw.expr.RawVar.{RawVar}
use Rattle.c_tree.specs.declared.raw.program.RawInit.{RawInit}
use Rattle.c_tree.specs.declared.raw.program.RawInit.TheVariants as init
use Rattle.c_tree.specs.declared.raw.program.RawProgram.{RawProgram}
use Rattle.c_tree.specs.declared.raw.statement.RawTarget.TheVariants as target
use Rattle.c_tree.specs.declared.raw.statement.RawLabel.{RawLabel}
use Rattle.c_tree.specs.declared.raw.statement.RawStatement.{RawStatement, roll-RawStatement}
use Rattle.c_tree.specs.declared.raw.statement.RawStatement.TheOpen.{RawStatement-F}
use Rattle.c_tree.specs.declared.raw.statement.RawStatement.TheVariants as s
use Rattle.c_tree.specs.declared.raw.statement.RawArm.{RawArm}
use Rattle.c_language.specs.Words.{Bytes}
use Rattle.c_language.specs.Scopes.{Scope, Scoped, with_variable, opened, numbered, in_order, after_all, after_block, part_gives, after_part, scope_of_test, scope_of_body}
use Rattle.c_language.specs.Phrases.{Stand, InBlock, InArm, InFor, Part, Declares, Assigns, Bumps, Calls, Allocates, Tests, Switches, Returns, Phrases, phrase, joined_at, at_stand, ArmText, labels_of, phrases_of_arms, scoped_step, scoped_arm, scoped, scoped_of_arm}
use Rattle.c_language.specs.ProgramOf.{declared_by}
use Rattle.c_language.proofs.ScopeNumbers.{begun_variables}
use Rattle.c_language.proofs.ScopedForms.{scoped-Declare, scoped-Call, scoped-Heap, scoped-If, scoped-While, scoped-Do, scoped-For, scoped-Switch, scoped-Block, scoped_of_arm-arm}
use Rattle.c_language.proofs.Options.{none_there}
use Rattle.c_language.proofs.Tests.{false_true}
use Rattle.c_scope_laws.specs.Agreement.{SameVariable, StandsFor, there, out_of_for, simple_part}
use Rattle.projection.specs.Kept.{Kept}
use Rattle.c_scope_laws.specs.Thinning.{declares, Thins, ThinAll, ThinsPart, ThinArms, ArmsGo, kept_args, kept_form}
use Rattle.c_scope_laws.specs.Following.{TextsAgree, ScopesAgree}
use Rattle.c_scope_laws.proofs.Outside.{variable_same}
use Rattle.c_scope_laws.proofs.Following.{numbered_kept, numbered_gone, follows_opened, follows_closed, follows_gone}
use Rattle.c_scope_laws.proofs.KeptForms.{form_part}
use Rattle.c_scope_laws.proofs.Walking.{walks, all_walk, part_walks, joined-append, scoped-append, scoped-roll, simple_after, Statements, opened_form, one_same, two_same}
use Rattle.c_scope_laws.proofs.VariableLists.{VarsStay, no_vars, both_vars, more_none, less_none, no_variable, phrase_gone, variable_stays, variable_goes, begun_stays, begun_goes}
use Rattle.c_language.specs.StatementGrammar.{arm}

module _ (k : Kept Bytes) (raw other : RawProgram) (texts : TextsAgree k raw other) (g : ℕ → ℕ) (here there_ : ℕ) (mine yours : Option ℕ) (own : yours ≡ option_map g mine) where
  abbrev Comes : Scope → Scope → Type 0
  Comes scope next = ScopesAgree k raw other here there_ mine yours scope next

  abbrev Vars : ℕ → Phrases → Phrases → ℕ → Type 0
  Vars m qs ps n = VarsStay k g raw other m qs ps n

  -- of a statement
  pub record One (scope next : Scope) (stand place : Stand) (x : Statements) (ys : List Statements) : Type 0 where
    pub vars : Vars scope.variables (joined_at place (in_order ys next)) (x.gives scope stand) (x.after scope).variables

  -- of a list
  pub record Many (scope next : Scope) (stand place : Stand) (xs ys : List Statements) : Type 0 where
    pub vars : Vars scope.variables (joined_at place (in_order ys next)) (joined_at stand (in_order xs scope)) (after_all xs scope).variables

  restated : {scope next : Scope} {stand place : Stand} {x y : Statements} {xs ys : List Statements} → x ≡ y → xs ≡ ys → One scope next stand place x xs → One scope next stand place y ys
  restated {scope} {next} {stand} {place} {x} {y} {xs} {ys} p q w = subst (One scope next stand place y) q (subst (λ (z : Statements). One scope next stand place z xs) p w)

  owned : {scope next : Scope} → Comes scope next → next.owner ≡ option_map g scope.owner
  owned c = c.other_owner ∙ own ∙ ap (option_map g) (sym c.owner)

  -- a phrase of a form that declares nothing, at both places or at one
  plain : (n l : ℕ) (scope next : Scope) (p q : Part) → declared_by raw l scope p ≡ [] → declared_by other l next q ≡ [] → Vars n (phrase l next q ∷ []) (phrase l scope p ∷ []) n
  plain n l scope next p q a b = no_variable k g raw other n l l scope next p q a b

  lost : (n l : ℕ) (scope : Scope) (p : Part) → declared_by raw l scope p ≡ [] → Vars n [] (phrase l scope p ∷ []) n
  lost n l scope p a = phrase_gone k g raw other n l scope p a

  abbrev both : {m n o : ℕ} (qs rs ps ts : Phrases) → Vars m qs ps n → Vars n rs ts o → Vars m (qs ++ rs) (ps ++ ts) o
  both qs rs ps ts a b = both_vars k g raw other qs rs ps ts a b

  ends : {m n o : ℕ} {qs ps : Phrases} → n ≡ o → Vars m qs ps n → Vars m qs ps o
  ends {m} {n} {o} {qs} {ps} h v = subst (Vars m qs ps) h v

  whole : {m n : ℕ} (qs ps : Phrases) → Vars m qs ps n → Vars m (qs ++ []) ps n
  whole qs ps v = more_none k g raw other qs ps v

  -- ---- statements without parts

  simple_vars : (n : ℕ) (scope next : Scope) (stand place : Stand) (x : RawStatement-F RawStatement RawArm) (part : Part) → simple_part (kept_form k n x) ≡ Some part → declares x ≡ false
      → Vars scope.variables ((scoped_step other (opened_form other (kept_form k n x))).gives next place) ((scoped_step raw (opened_form raw x)).gives scope stand) ((scoped_step raw (opened_form raw x)).after scope).variables
  simple_vars n scope next stand place (RawStatement-F.Declare l v i) part h none = false_true (sym none)
  simple_vars n scope next stand place (RawStatement-F.Assign l left op right) part h none = plain scope.variables l scope next (Assigns left op right) (Assigns left op right) refl refl
  simple_vars n scope next stand place (RawStatement-F.Bump l left up before) part h none = plain scope.variables l scope next (Bumps left) (Bumps left) refl refl
  simple_vars n scope next stand place (RawStatement-F.Call l target.None w args) part h none = plain scope.variables l scope next (Calls stand target.None w args) (Calls place target.None w (kept_args k w n args)) refl refl
  simple_vars n scope next stand place (RawStatement-F.Call l (target.Place a) w args) part h none = plain scope.variables l scope next (Calls stand (target.Place a) w args) (Calls place (target.Place a) w (kept_args k w n args)) refl refl
  simple_vars n scope next stand place (RawStatement-F.Call l (target.Declared v) w args) part h none = false_true (sym none)
  simple_vars n scope next stand place (RawStatement-F.Heap l target.None cast m) part h none = plain scope.variables l scope next (Allocates target.None cast m) (Allocates target.None cast m) refl refl
  simple_vars n scope next stand place (RawStatement-F.Heap l (target.Place a) cast m) part h none = plain scope.variables l scope next (Allocates (target.Place a) cast m) (Allocates (target.Place a) cast m) refl refl
  simple_vars n scope next stand place (RawStatement-F.Heap l (target.Declared v) cast m) part h none = false_true (sym none)
  simple_vars n scope next stand place (RawStatement-F.Return l value) part h none = plain scope.variables l scope next (Returns value) (Returns value) refl refl
  simple_vars n scope next stand place (RawStatement-F.If l a b c) part h none = none_there h
  simple_vars n scope next stand place (RawStatement-F.While l a b) part h none = none_there h
  simple_vars n scope next stand place (RawStatement-F.Do l a b) part h none = none_there h
  simple_vars n scope next stand place (RawStatement-F.For l i a step b) part h none = none_there h
  simple_vars n scope next stand place (RawStatement-F.Switch l a arms) part h none = none_there h
  simple_vars n scope next stand place (RawStatement-F.Block l b) part h none = none_there h

  simple_lost : (scope : Scope) (stand : Stand) (x : RawStatement-F RawStatement RawArm) (part : Part) → simple_part x ≡ Some part → declares x ≡ false
      → Vars scope.variables [] ((scoped_step raw (opened_form raw x)).gives scope stand) ((scoped_step raw (opened_form raw x)).after scope).variables
  simple_lost scope stand (RawStatement-F.Declare l v i) part h none = false_true (sym none)
  simple_lost scope stand (RawStatement-F.Assign l left op right) part h none = lost scope.variables l scope (Assigns left op right) refl
  simple_lost scope stand (RawStatement-F.Bump l left up before) part h none = lost scope.variables l scope (Bumps left) refl
  simple_lost scope stand (RawStatement-F.Call l target.None w args) part h none = lost scope.variables l scope (Calls stand target.None w args) refl
  simple_lost scope stand (RawStatement-F.Call l (target.Place a) w args) part h none = lost scope.variables l scope (Calls stand (target.Place a) w args) refl
  simple_lost scope stand (RawStatement-F.Call l (target.Declared v) w args) part h none = false_true (sym none)
  simple_lost scope stand (RawStatement-F.Heap l target.None cast n) part h none = lost scope.variables l scope (Allocates target.None cast n) refl
  simple_lost scope stand (RawStatement-F.Heap l (target.Place a) cast n) part h none = lost scope.variables l scope (Allocates (target.Place a) cast n) refl
  simple_lost scope stand (RawStatement-F.Heap l (target.Declared v) cast n) part h none = false_true (sym none)
  simple_lost scope stand (RawStatement-F.Return l value) part h none = lost scope.variables l scope (Returns value) refl
  simple_lost scope stand (RawStatement-F.If l a b c) part h none = none_there h
  simple_lost scope stand (RawStatement-F.While l a b) part h none = none_there h
  simple_lost scope stand (RawStatement-F.Do l a b) part h none = none_there h
  simple_lost scope stand (RawStatement-F.For l i a step b) part h none = none_there h
  simple_lost scope stand (RawStatement-F.Switch l a arms) part h none = none_there h
  simple_lost scope stand (RawStatement-F.Block l b) part h none = none_there h

  -- ---- declarations

  same : (v : RawVar) (i : RawInit) → SameVariable raw other v i v i
  same v i = variable_same raw other texts.outside v i

  kept_variable : {scope next : Scope} {stand place : Stand} (l : ℕ) (v w : RawVar) (i j : RawInit) → k.variable scope.variables ≡ true → StandsFor stand place → SameVariable raw other v i w j → Comes scope next
      → Vars scope.variables (phrase l next (Declares place w j) ∷ []) (phrase l scope (Declares stand v i) ∷ []) (scope.variables + 1)
  kept_variable {scope} {next} {stand} {place} l v w i j is st like c = variable_stays k g raw other l scope next stand place v w i j is st like (owned c)

  gone_variable : {scope : Scope} (l : ℕ) (stand : Stand) (v : RawVar) (i : RawInit) → k.variable scope.variables ≡ false → Vars scope.variables [] (phrase l scope (Declares stand v i) ∷ []) (scope.variables + 1)
  gone_variable {scope} l stand v i is = variable_goes k g raw other l scope stand v i is

  -- a part of a for
  abbrev PartVars : Scope → Scope → Stand → Stand → Option Statements → Option Statements → Type 0
  PartVars scope next stand place x y = Vars scope.variables (at_stand place (part_gives y next)) (at_stand stand (part_gives x scope)) (after_part x scope).variables

  -- the arms of a switch
  pub record ArmVars (scope next : Scope) (xs ys : List (Scoped ArmText)) : Type 0 where
    pub vars : Vars scope.variables (phrases_of_arms (in_order ys next)) (phrases_of_arms (in_order xs scope)) (after_all xs scope).variables

  then_arm : {scope next : Scope} (labels : List RawLabel) (body some : List RawStatement) (rest others : List (Scoped ArmText)) → Many scope next InArm InArm (map (scoped raw) body) (map (scoped other) some)
      → ArmVars (after_all (map (scoped raw) body) scope) (after_all (map (scoped other) some) next) rest others
      → ArmVars scope next (scoped_of_arm raw (arm labels body) ∷ rest) (scoped_of_arm other (arm labels some) ∷ others)
  then_arm {scope} {next} labels body some rest others w v =
      subst (λ (y : Scoped ArmText). ArmVars scope next (scoped_of_arm raw (arm labels body) ∷ rest) (y ∷ others)) (sym (scoped_of_arm-arm other labels some))
      (subst (λ (y : Scoped ArmText). ArmVars scope next (y ∷ rest) (scoped_arm (record { labels = labels; body = map (scoped other) some }) ∷ others)) (sym (scoped_of_arm-arm raw labels body))
      (record { vars = both _ _ _ _ w.vars v.vars }))

  then_gone : {scope : Scope} (labels : List RawLabel) (body : List RawStatement) (rest : List (Scoped ArmText)) (next : Scope) → Many scope next InArm InArm (map (scoped raw) body) [] → ArmVars (after_all (map (scoped raw) body) scope) next rest []
      → ArmVars scope next (scoped_of_arm raw (arm labels body) ∷ rest) []
  then_gone {scope} labels body rest next w v =
      subst (λ (y : Scoped ArmText). ArmVars scope next (y ∷ rest) []) (sym (scoped_of_arm-arm raw labels body)) (record { vars = both [] [] _ _ w.vars v.vars })

  then_many : (scope next : Scope) (stand place : Stand) (x : Statements) (rest : List Statements) (some others : List RawStatement) → One scope next stand place x (map (scoped other) some)
      → Many (x.after scope) (after_all (map (scoped other) some) next) stand place rest (map (scoped other) others) → Many scope next stand place (x ∷ rest) (map (scoped other) (some ++ others))
  then_many scope next stand place x rest some others w v =
      subst (Many scope next stand place (x ∷ rest)) (sym (scoped-append k raw other texts here there_ mine yours some others)) (record {
        vars = subst (λ (qs : Phrases). Vars scope.variables qs (x.gives scope stand ++ joined_at stand (in_order rest (x.after scope))) (after_all rest (x.after scope)).variables)
            (sym (joined-append k raw other texts here there_ mine yours place (map (scoped other) some) (map (scoped other) others) next)) (both _ _ _ _ w.vars v.vars);
      })

  mutual
    pub vars_walk : {scope : Scope} {x : RawStatement} {xs : List RawStatement} → Thins k raw other scope x xs → (next : Scope) (stand place : Stand) → StandsFor stand place → Comes scope next
        → One scope next stand place (scoped raw x) (map (scoped other) xs)
    vars_walk {scope} (Thins.simple x part is none kept complete stay) next stand place st c =
        restated (sym (scoped-roll k raw other texts here there_ mine yours raw x)) (one_same (sym (scoped-roll k raw other texts here there_ mine yours other (kept_form k scope.statements x)))) (record { vars = whole _ _ (simple_vars scope.statements scope next stand place x part is none) })
    vars_walk {scope} (Thins.simple_goes x part is none out) next stand place st c =
        restated (sym (scoped-roll k raw other texts here there_ mine yours raw x)) refl (record { vars = simple_lost scope stand x part is none })
    vars_walk {scope} (Thins.result_goes {l} {a} {f = w} {args} strange result kept fits stay) next stand place st c =
        restated (sym (scoped-Call raw l (target.Place a) w args)) (one_same (sym (scoped-Call other l target.None w (kept_args k w scope.statements args))))
        (record { vars = plain scope.variables l scope next (Calls stand (target.Place a) w args) (Calls place target.None w (kept_args k w scope.statements args)) refl refl })
    vars_walk {scope} (Thins.declaration {l} {v} {i} is kept stay begin) next stand place st c =
        restated (sym (scoped-Declare raw l v i)) (one_same (sym (scoped-Declare other l v i)))
        (record { vars = ends (sym (begun_variables i (with_variable raw v i scope))) (whole _ _ (both _ _ _ _ (kept_variable l v v i i is st (same v i) c) (begun_stays k g raw other _ l _ _ stand place v i))) })
    vars_walk {scope} (Thins.initialiser_goes {l} {v} {w} {i} is out like stay) next stand place st c =
        restated (sym (scoped-Declare raw l v i)) (one_same (sym (scoped-Declare other l w init.None)))
        (record { vars = ends (sym (begun_variables i (with_variable raw v i scope))) (both (phrase l next (Declares place w init.None) ∷ []) [] (phrase l scope (Declares stand v i) ∷ []) _ (kept_variable l v w i init.None is st like c) (begun_goes k g raw other _ l _ stand v i)) })
    vars_walk {scope} (Thins.declaration_goes {l} {v} {i} is out) next stand place st c =
        restated (sym (scoped-Declare raw l v i)) refl
        (record { vars = ends (sym (begun_variables i (with_variable raw v i scope))) (both [] [] (phrase l scope (Declares stand v i) ∷ []) _ (gone_variable l stand v i is) (begun_goes k g raw other _ l _ stand v i)) })
    vars_walk {scope} (Thins.call {l} {v} {f = w} {args} complete fits is kept stay stay_call) next stand place st c =
        restated (sym (scoped-Call raw l (target.Declared v) w args)) (one_same (sym (scoped-Call other l (target.Declared v) w (kept_args k w scope.statements args))))
        (record {
          vars = whole _ _ (both (phrase l next (Declares place v init.None) ∷ []) _ (phrase l scope (Declares stand v init.None) ∷ []) _ (kept_variable l v v init.None init.None is st (same v init.None) c)
              (plain _ l _ _ (Calls stand (target.Declared v) w args) (Calls place (target.Declared v) w (kept_args k w scope.statements args)) refl refl));
        })
    vars_walk {scope} (Thins.call_follows {l} {v} {f = w} {args} strange result is kept fits stay stay_call) next stand place st c =
        restated (sym (scoped-Call raw l (target.Declared v) w args)) (two_same (sym (scoped-Declare other l v init.None)) (sym (scoped-Call other l target.None w (kept_args k w scope.statements args))))
        (record {
          vars = both (phrase l next (Declares place v init.None) ∷ []) _ (phrase l scope (Declares stand v init.None) ∷ []) _ (kept_variable l v v init.None init.None is st (same v init.None) c)
              (plain _ l _ (with_variable other v init.None next) (Calls stand (target.Declared v) w args) (Calls place target.None w (kept_args k w scope.statements args)) refl refl);
        })
    vars_walk {scope} (Thins.call_alone {l} {v} {f = w} {args} strange result is kept fits stay_call) next stand place st c =
        restated (sym (scoped-Call raw l (target.Declared v) w args)) (one_same (sym (scoped-Call other l target.None w (kept_args k w scope.statements args))))
        (record { vars = both [] (phrase l next (Calls place target.None w (kept_args k w scope.statements args)) ∷ []) (phrase l scope (Declares stand v init.None) ∷ []) _ (gone_variable l stand v init.None is) (plain _ l _ next (Calls stand (target.Declared v) w args) (Calls place target.None w (kept_args k w scope.statements args)) refl refl) })
    vars_walk {scope} (Thins.call_goes {l} {v} {f = w} {args} gives is out stay) next stand place st c =
        restated (sym (scoped-Call raw l (target.Declared v) w args)) (one_same (sym (scoped-Declare other l v init.None)))
        (record { vars = both (phrase l next (Declares place v init.None) ∷ []) [] (phrase l scope (Declares stand v init.None) ∷ []) _ (kept_variable l v v init.None init.None is st (same v init.None) c) (lost _ l _ (Calls stand (target.Declared v) w args) refl) })
    vars_walk {scope} (Thins.called_goes {l} {v} {f = w} {args} is out) next stand place st c =
        restated (sym (scoped-Call raw l (target.Declared v) w args)) refl
        (record { vars = both [] [] (phrase l scope (Declares stand v init.None) ∷ []) _ (gone_variable l stand v init.None is) (lost _ l _ (Calls stand (target.Declared v) w args) refl) })
    vars_walk {scope} (Thins.heap {l} {v} {cast} {n} is kept stay stay_heap) next stand place st c =
        restated (sym (scoped-Heap raw l (target.Declared v) cast n)) (one_same (sym (scoped-Heap other l (target.Declared v) cast n)))
        (record {
          vars = whole _ _ (both (phrase l next (Declares place v init.None) ∷ []) _ (phrase l scope (Declares stand v init.None) ∷ []) _ (kept_variable l v v init.None init.None is st (same v init.None) c)
              (plain _ l _ _ (Allocates (target.Declared v) cast n) (Allocates (target.Declared v) cast n) refl refl));
        })
    vars_walk {scope} (Thins.heap_goes {l} {v} {cast} {n} is out stay) next stand place st c =
        restated (sym (scoped-Heap raw l (target.Declared v) cast n)) (one_same (sym (scoped-Declare other l v init.None)))
        (record { vars = both (phrase l next (Declares place v init.None) ∷ []) [] (phrase l scope (Declares stand v init.None) ∷ []) _ (kept_variable l v v init.None init.None is st (same v init.None) c) (lost _ l _ (Allocates (target.Declared v) cast n) refl) })
    vars_walk {scope} (Thins.heaped_goes {l} {v} {cast} {n} is out) next stand place st c =
        restated (sym (scoped-Heap raw l (target.Declared v) cast n)) refl
        (record { vars = both [] [] (phrase l scope (Declares stand v init.None) ∷ []) _ (gone_variable l stand v init.None is) (lost _ l _ (Allocates (target.Declared v) cast n) refl) })
    vars_walk {scope} (Thins.conditional {l} {a} {first} {second} {some} {others} is stay d e) next stand place st c =
        let n = numbered_kept k raw other is c in
        let w = all_walk k raw other texts here there_ mine yours d (opened (numbered next)) InBlock InBlock there (follows_opened k raw other n) in
        let p = vars_all d (opened (numbered next)) InBlock InBlock there (follows_opened k raw other n) in
        let q = vars_all e (opened (after_block (map (scoped other) some) (numbered next))) InBlock InBlock there (follows_opened k raw other (follows_closed k raw other n w.after)) in
        restated (sym (scoped-If raw l a first second)) (one_same (sym (scoped-If other l a some others)))
        (record { vars = whole _ _ (both (phrase l next (Tests a) ∷ []) _ (phrase l scope (Tests a) ∷ []) _ (plain scope.variables l scope next (Tests a) (Tests a) refl refl) (both _ _ _ _ p.vars q.vars)) })
    vars_walk {scope} (Thins.conditional_goes {l} {a} {first} {second} out d e) next stand place st c =
        let n = numbered_gone k raw other out c in
        let w = all_walk k raw other texts here there_ mine yours d (opened next) InBlock InBlock there (follows_opened k raw other n) in
        let p = vars_all d (opened next) InBlock InBlock there (follows_opened k raw other n) in
        let q = vars_all e (opened next) InBlock InBlock there (follows_opened k raw other (follows_gone k raw other n w.after)) in
        restated (sym (scoped-If raw l a first second)) refl (record { vars = both [] [] (phrase l scope (Tests a) ∷ []) _ (lost scope.variables l scope (Tests a) refl) (both [] [] _ _ p.vars q.vars) })
    vars_walk {scope} (Thins.while_loop {l} {a} {body} {some} is stay d) next stand place st c =
        let p = vars_all d (opened (numbered next)) InBlock InBlock there (follows_opened k raw other (numbered_kept k raw other is c)) in
        restated (sym (scoped-While raw l a body)) (one_same (sym (scoped-While other l a some)))
        (record { vars = whole _ _ (both (phrase l next (Tests a) ∷ []) _ (phrase l scope (Tests a) ∷ []) _ (plain scope.variables l scope next (Tests a) (Tests a) refl refl) p.vars) })
    vars_walk {scope} (Thins.while_goes {l} {a} {body} out d) next stand place st c =
        let p = vars_all d (opened next) InBlock InBlock there (follows_opened k raw other (numbered_gone k raw other out c)) in
        restated (sym (scoped-While raw l a body)) refl (record { vars = both [] [] (phrase l scope (Tests a) ∷ []) _ (lost scope.variables l scope (Tests a) refl) p.vars })
    vars_walk {scope} (Thins.do_loop {l} {a} {body} {some} is stay d) next stand place st c =
        let p = vars_all d (opened (numbered next)) InBlock InBlock there (follows_opened k raw other (numbered_kept k raw other is c)) in
        restated (sym (scoped-Do raw l a body)) (one_same (sym (scoped-Do other l a some)))
        (record { vars = whole _ _ (both (phrase l next (Tests a) ∷ []) _ (phrase l scope (Tests a) ∷ []) _ (plain scope.variables l scope next (Tests a) (Tests a) refl refl) p.vars) })
    vars_walk {scope} (Thins.do_goes {l} {a} {body} out d) next stand place st c =
        let p = vars_all d (opened next) InBlock InBlock there (follows_opened k raw other (numbered_gone k raw other out c)) in
        restated (sym (scoped-Do raw l a body)) refl (record { vars = both [] [] (phrase l scope (Tests a) ∷ []) _ (lost scope.variables l scope (Tests a) refl) p.vars })
    vars_walk {scope} (Thins.for_loop {l} {a} {first} {step} {begin} {next = later} {body} {some} is stay d e h) next stand place st c =
        let n = follows_opened k raw other (numbered_kept k raw other is c) in
        let p = part_walks k raw other texts here there_ mine yours d (opened (numbered next)) InFor InFor there n in
        let q = part_walks k raw other texts here there_ mine yours e (scope_of_test (option_map (scoped other) begin) next) InBlock InBlock there p.after in
        let u = vars_part d (opened (numbered next)) InFor InFor there n in
        let v = vars_part e (scope_of_test (option_map (scoped other) begin) next) InBlock InBlock there p.after in
        let w = vars_all h (opened (scope_of_body (option_map (scoped other) begin) (option_map (scoped other) later) next)) InBlock InBlock there (follows_opened k raw other q.after) in
        restated (sym (scoped-For raw l first a step body)) (one_same (sym (scoped-For other l begin a later some)))
        (record {
          vars = whole _ _ (both _ _ _ _ u (both (phrase l (scope_of_test (option_map (scoped other) begin) next) (Tests a) ∷ []) _ (phrase l (scope_of_test (option_map (scoped raw) first) scope) (Tests a) ∷ []) _
              (plain _ l _ _ (Tests a) (Tests a) refl refl) (both _ _ _ _ v w.vars)));
        })
    vars_walk {scope} (Thins.for_goes {l} {a} {first} {step} {body} out d e h) next stand place st c =
        let n = follows_opened k raw other (numbered_gone k raw other out c) in
        let p = part_walks k raw other texts here there_ mine yours d (opened next) InFor InFor there n in
        let q = part_walks k raw other texts here there_ mine yours e (opened next) InBlock InBlock there p.after in
        let u = vars_part d (opened next) InFor InFor there n in
        let v = vars_part e (opened next) InBlock InBlock there p.after in
        let w = vars_all h (opened (opened next)) InBlock InBlock there (follows_opened k raw other q.after) in
        restated (sym (scoped-For raw l first a step body)) refl
        (record { vars = both [] [] _ _ u (both [] [] (phrase l (scope_of_test (option_map (scoped raw) first) scope) (Tests a) ∷ []) _ (lost _ l _ (Tests a) refl) (both [] [] _ _ v w.vars)) })
    vars_walk {scope} (Thins.for_block {l} {a} {first} {begin} {step} {body} out declaring gives d e h) next stand place st c =
        let n = follows_opened k raw other (numbered_gone k raw other out c) in
        let p = walks k raw other texts here there_ mine yours d (opened next) InFor InBlock out_of_for n in
        let q = part_walks k raw other texts here there_ mine yours e ((scoped other begin).after (opened next)) InBlock InBlock there p.after in
        let u = vars_walk d (opened next) InFor InBlock out_of_for n in
        let v = vars_part e ((scoped other begin).after (opened next)) InBlock InBlock there p.after in
        let w = vars_all h (opened ((scoped other begin).after (opened next))) InBlock InBlock there (follows_opened k raw other q.after) in
        restated (sym (scoped-For raw l (Some first) a step body)) (one_same (sym (scoped-Block other l (begin ∷ []))))
        (record { vars = both _ [] _ _ u.vars (both [] [] (phrase l (scope_of_test (option_map (scoped raw) (Some first)) scope) (Tests a) ∷ []) _ (lost _ l _ (Tests a) refl) (both [] [] _ _ v w.vars)) })
    vars_walk {scope} (Thins.for_simple {l} {a} x part {step} {body} out is none kept complete stay e h) next stand place st c =
        let n = numbered_gone k raw other out c in
        let form = kept_form k (numbered scope).statements x in
        let raw_part = form_part k (numbered scope).statements x part is in
        let y = sym (ap (λ (u : Statements). u.after (opened (numbered scope))) (scoped-roll k raw other texts here there_ mine yours raw x) ∙ simple_after k raw other texts here there_ mine yours raw x raw_part.0 raw_part.1 none (opened (numbered scope))) in
        let m = subst (λ (z : Scope). Comes z (numbered (opened next))) y (numbered_kept k raw other kept (follows_opened k raw other n)) in
        let q = part_walks k raw other texts here there_ mine yours e (numbered (opened next)) InBlock InBlock there m in
        let v = vars_part e (numbered (opened next)) InBlock InBlock there m in
        let w = vars_all h (opened (numbered (opened next))) InBlock InBlock there (follows_opened k raw other q.after) in
        restated (sym (scoped-For raw l (Some (roll-RawStatement x)) a step body)) (one_same (sym (scoped-roll k raw other texts here there_ mine yours other form)))
        (record {
          vars = both _ [] _ _
              (subst (λ (u : Statements). Vars scope.variables ((scoped_step other (opened_form other form)).gives next place) (u.gives (opened (numbered scope)) InFor) (u.after (opened (numbered scope))).variables) (sym (scoped-roll k raw other texts here there_ mine yours raw x))
              (simple_vars (numbered scope).statements (opened (numbered scope)) next InFor place x part is none))
              (both [] [] (phrase l (scope_of_test (option_map (scoped raw) (Some (roll-RawStatement x))) scope) (Tests a) ∷ []) _ (lost _ l _ (Tests a) refl) (both [] [] _ _ v w.vars));
        })
    vars_walk {scope} (Thins.for_result_goes {l} {m} {a} b {f = w} args {step} {body} out strange result kept fits stay e h) next stand place st c =
        let n = numbered_gone k raw other out c in
        let first = scoped-Call raw m (target.Place b) w args in
        let later = subst (λ (z : Scope). Comes z (numbered (opened next))) (sym (ap (λ (u : Statements). u.after (opened (numbered scope))) first)) (numbered_kept k raw other kept (follows_opened k raw other n)) in
        let q = part_walks k raw other texts here there_ mine yours e (numbered (opened next)) InBlock InBlock there later in
        let v = vars_part e (numbered (opened next)) InBlock InBlock there later in
        let u = vars_all h (opened (numbered (opened next))) InBlock InBlock there (follows_opened k raw other q.after) in
        let some = kept_args k w (numbered scope).statements args in
        restated (sym (scoped-For raw l (Some (s.Call m (target.Place b) w args)) a step body)) (one_same (sym (scoped-Call other m target.None w some)))
        (record {
          vars = both _ [] _ _
              (subst (λ (y : Statements). Vars scope.variables (phrase m next (Calls place target.None w some) ∷ []) (y.gives (opened (numbered scope)) InFor) (y.after (opened (numbered scope))).variables) (sym first)
              (plain scope.variables m (opened (numbered scope)) next (Calls InFor (target.Place b) w args) (Calls place target.None w some) refl refl))
              (both [] [] (phrase l (scope_of_test (option_map (scoped raw) (Some (s.Call m (target.Place b) w args))) scope) (Tests a) ∷ []) _ (lost _ l _ (Tests a) refl) (both [] [] _ _ v u.vars));
        })
    vars_walk {scope} (Thins.switch {l} {a} {arms} {others} is stay d) next stand place st c =
        let w = vars_arms d (opened (numbered next)) (follows_opened k raw other (numbered_kept k raw other is c)) in
        restated (sym (scoped-Switch raw l a arms)) (one_same (sym (scoped-Switch other l a others)))
        (record {
          vars = whole _ _ (both (phrase l next (Switches a (labels_of (in_order (map (scoped_of_arm other) others) (opened (numbered next))))) ∷ []) _ (phrase l scope (Switches a (labels_of (in_order (map (scoped_of_arm raw) arms) (opened (numbered scope))))) ∷ []) _
              (plain scope.variables l scope next _ _ refl refl) w.vars);
        })
    vars_walk {scope} (Thins.switch_goes {l} {a} {arms} out d) next stand place st c =
        let w = arms_lost d (opened next) (follows_opened k raw other (numbered_gone k raw other out c)) in
        restated (sym (scoped-Switch raw l a arms)) refl
        (record { vars = both [] [] (phrase l scope (Switches a (labels_of (in_order (map (scoped_of_arm raw) arms) (opened (numbered scope))))) ∷ []) _ (lost scope.variables l scope _ refl) w.vars })
    vars_walk {scope} (Thins.block {l} {body} {rest} {x} d) next stand place st c =
        let w = vars_all d (opened next) InBlock InBlock there (follows_opened k raw other c) in
        restated (sym (scoped-Block raw l body)) (one_same (sym (scoped-Block other l (x ∷ rest)))) (record { vars = whole _ _ w.vars })
    vars_walk {scope} (Thins.block_goes {l} {body} d) next stand place st c =
        let w = vars_all d (opened next) InBlock InBlock there (follows_opened k raw other c) in
        restated (sym (scoped-Block raw l body)) refl (record { vars = w.vars })

    pub vars_all : {scope : Scope} {xs ys : List RawStatement} → ThinAll k raw other scope xs ys → (next : Scope) (stand place : Stand) → StandsFor stand place → Comes scope next
        → Many scope next stand place (map (scoped raw) xs) (map (scoped other) ys)
    vars_all {scope} ThinAll.none next stand place st c = record { vars = no_vars k g raw other scope.variables }
    vars_all {scope} (ThinAll.more {x} {rest} {some} {others} d e) next stand place st c =
        let p = walks k raw other texts here there_ mine yours d next stand place st c in
        let w = vars_walk d next stand place st c in
        let v = vars_all e (after_all (map (scoped other) some) next) stand place st p.after in
        then_many scope next stand place (scoped raw x) (map (scoped raw) rest) some others w v

    vars_part : {scope : Scope} {x y : Option RawStatement} → ThinsPart k raw other scope x y → (next : Scope) (stand place : Stand) → StandsFor stand place → Comes scope next
        → PartVars scope next stand place (option_map (scoped raw) x) (option_map (scoped other) y)
    vars_part {scope} ThinsPart.missing next stand place st c = no_vars k g raw other scope.variables
    vars_part (ThinsPart.part_stays {x} {y} d) next stand place st c = let w = vars_walk d next stand place st c in less_none k g raw other ((scoped other y).gives next place) _ w.vars
    vars_part (ThinsPart.part_goes d) next stand place st c = let w = vars_walk d next stand place st c in w.vars

    vars_arms : {scope : Scope} {xs ys : List RawArm} → ThinArms k raw other scope xs ys → (next : Scope) → Comes scope next → ArmVars scope next (map (scoped_of_arm raw) xs) (map (scoped_of_arm other) ys)
    vars_arms {scope} ThinArms.no_arms next c = record { vars = no_vars k g raw other scope.variables }
    vars_arms (ThinArms.arm_stays {labels} {body} {some} {rest} {others} stay d e) next c =
        let p = all_walk k raw other texts here there_ mine yours d next InArm InArm there c in
        let w = vars_all d next InArm InArm there c in
        let v = vars_arms e (after_all (map (scoped other) some) next) p.after in
        then_arm labels body some (map (scoped_of_arm raw) rest) (map (scoped_of_arm other) others) w v

    arms_lost : {scope : Scope} {xs : List RawArm} → ArmsGo k raw other scope xs → (next : Scope) → Comes scope next → ArmVars scope next (map (scoped_of_arm raw) xs) []
    arms_lost {scope} ArmsGo.no_arms_left next c = record { vars = no_vars k g raw other scope.variables }
    arms_lost (ArmsGo.arm_goes {labels} {body} {rest} d e) next c =
        let p = all_walk k raw other texts here there_ mine yours d next InArm InArm there c in
        let w = vars_all d next InArm InArm there c in
        let v = arms_lost e next p.after in
        then_gone labels body (map (scoped_of_arm raw) rest) next w v
