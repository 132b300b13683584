-- Each form of statement, as steps of the walk.
--
-- A form's equation holds only at a scope: `restated_at` compares phrases and scope at that of the tables.
use Rattle.std.proofs.Common.{◌≡◌, ℕ, ◌+◌, ◌<◌, List, [], ◌∷◌, ◌++◌, length, take, get_or, Option, None, Result, Ok, Err, sym, ap, subst, ◌∙◌, append_assoc, append-nil}
use Rattle.std.proofs.lemmas.List.{take_more}
use Rattle.c_tree.specs.declared.raw.expr.RawExpr.{RawExpr}
use Rattle.c_tree.specs.declared.raw.expr.RawVar.{RawVar}
use Rattle.c_tree.specs.declared.raw.program.RawInit.{RawInit}
use Rattle.c_tree.specs.declared.raw.statement.RawLabel.{RawLabel}
use Rattle.c_tree.specs.declared.raw.statement.RawArm.{RawArm}
use Rattle.c_tree.specs.declared.raw.statement.RawStatement.{RawStatement}
use Rattle.c_tree.specs.declared.raw.statement.RawStatement.TheOpen.{RawStatement-F}
use Rattle.c_tree.specs.declared.raw.statement.RawStatement.TheVariants as s
use Rattle.c_language.specs.Phrases.{Stand, InFor, InBlock, InArm, Tests, Switches, Phrases, phrase, phrases_of_arms, scoped_of_arm}
use Rattle.c_language.specs.Scopes.{Scoped, opened, numbered, in_order}
use Rattle.std.specs.Prelude.{map}
use Rattle.c_language.proofs.ScopedForms.{scoped-Declare, scoped-If, scoped-While, scoped-Do, scoped-Switch, scoped-Block}
use Rattle.c_types_base.specs.Tables.{scope_of, AreRight, IsAt}
use Rattle.c_types_base.specs.declared.fault.Fault.{Fault}
use Rattle.c_types_base.specs.declared.tables.Before.{Before}
use Rattle.c_types_base.specs.declared.tables.Tables.{Tables}
use Rattle.c_types_checks.specs.Checking.{Decides, check_test}
use Rattle.c_types_base.specs.Stretches.{Stretch, then_comes, enclosed, a_statement, standing, of_statement, of_form, of_statements, of_block, of_arms, of_part, labels_in}
use Rattle.c_types_rules.specs.Walks.{Tells, Walks, on_line}
use Rattle.c_types_rules.specs.declared.walk_fault.WalkFault.{WalkFault}
use Rattle.c_types_rules.proofs.Checked.{walks_phrase}
use Rattle.c_types_base.proofs.Stretching.{arm_is, for_is, for_grows, labels-arms, a_number, one_phrase, of_arm, of_for}
use Rattle.c_types_rules.proofs.WalkSteps.{Outcome, Passed, begins, turn, stops, ends, restated, two, first_stops, encloses, enclosed_stops}
use Rattle.c_language.specs.Rules.{AreKept}

labels-append : (xs : List RawArm) (a : RawArm) → labels_in (xs ++ a ∷ []) ≡ labels_in xs ++ a.labels
labels-append [] a = append-nil a.labels
labels-append (x ∷ xs) a = ap (λ ls. x.labels ++ ls) (labels-append xs a) ∙ sym (append_assoc x.labels (labels_in xs) a.labels)

-- the labels of one arm more
pub labels_more : (arms : List RawArm) (i : ℕ) (a : RawArm) (before now labels : List RawLabel) → i < length arms → a ≡ get_or arms i a
    → before ≡ labels_in (take i arms) → now ≡ before ++ labels → labels ≡ a.labels → now ≡ labels_in (take (i + 1) arms)
labels_more arms i a before now labels within is so_far next own =
    next ∙ ap (λ ls. ls ++ labels) so_far ∙ ap (λ ls. labels_in (take i arms) ++ ls) own ∙ sym (labels-append (take i arms) a)
    ∙ ap labels_in (ap (λ x. take i arms ++ x ∷ []) is ∙ sym (take_more arms i a within))

-- a stretch that is the same where it stands
pub restated_at : (w v : Stretch) (old new : Tables) (r : Outcome) → (w old.raw.now).gives (scope_of old) ≡ (v old.raw.now).gives (scope_of old)
    → (w old.raw.now).after (scope_of old) ≡ (v old.raw.now).after (scope_of old) → Walks w old new r → Walks v old new r
restated_at w v old new (Ok x) gives after h = (subst (AreKept old.raw.now) gives h.0, subst (IsAt old new) after h.1)
restated_at w v old new (Err e) gives after h = subst (λ ps. Tells old.raw.now ps e) gives h

pub arm_walks : (a : RawArm) (body : List RawStatement) (old new : Tables) (r : Outcome) → body ≡ a.body → Walks (of_statements InArm body) old new r → Walks (of_arm a) old new r
arm_walks a body old new r e h =
    restated (of_statements InArm body) (of_arm a) old new r (ap (λ ss. of_statements InArm ss old.raw.now) e ∙ sym (arm_is old.raw.now a)) h

module _ (old : Tables) (stand : Stand) (one : RawStatement) (new : Tables) (r : Outcome) where
  form_walks : (x : RawStatement) → one ≡ x → (w : Stretch) → of_statement stand x old.raw.now ≡ w old.raw.now → Walks w old new r → Walks (of_statement stand one) old new r
  form_walks x is w e h = restated w (of_statement stand one) old new r (sym (ap (λ y. of_statement stand y old.raw.now) is ∙ e)) h

  pub declare_walks : (l : ℕ) (v : RawVar) (i : RawInit) → one ≡ s.Declare l v i → Walks (of_form stand (λ raw. RawStatement-F.Declare l v i)) old new r → Walks (of_statement stand one) old new r
  declare_walks l v i is h = form_walks (s.Declare l v i) is (of_form stand (λ raw. RawStatement-F.Declare l v i)) (ap (standing stand) (scoped-Declare old.raw.now l v i)) h

  pub block_walks : (l : ℕ) (b body : List RawStatement) → one ≡ s.Block l b → body ≡ b → Walks (of_block body) old new r → Walks (of_statement stand one) old new r
  block_walks l b body is e h =
      form_walks (s.Block l b) is (of_block body) (ap (standing stand) (scoped-Block old.raw.now l b) ∙ ap (λ ss. of_block ss old.raw.now) (sym e)) h

  abbrev of_loop : ℕ → RawExpr → List RawStatement → Stretch
  of_loop l e body = then_comes (a_statement l (Tests e)) (of_block body)

  module _ (l : ℕ) (e : RawExpr) (b body : List RawStatement) (same : body ≡ b) (tested : Tables)
      (first : Walks (a_statement l (Tests e)) old tested (Ok tt)) (second : Walks (of_block body) tested new r) where
    both : Walks (of_loop l e body) old new r
    both = two (a_statement l (Tests e)) (of_block body) old tested new r first second

    pub while_walks : one ≡ s.While l e b → Walks (of_statement stand one) old new r
    while_walks is = form_walks (s.While l e b) is (of_loop l e body) (ap (standing stand) (scoped-While old.raw.now l e b) ∙ ap (λ ss. of_loop l e ss old.raw.now) (sym same)) both

    pub do_walks : one ≡ s.Do l e b → Walks (of_statement stand one) old new r
    do_walks is = form_walks (s.Do l e b) is (of_loop l e body) (ap (standing stand) (scoped-Do old.raw.now l e b) ∙ ap (λ ss. of_loop l e ss old.raw.now) (sym same)) both

  abbrev of_fork : ℕ → RawExpr → List RawStatement → List RawStatement → Stretch
  of_fork l e main rest = then_comes (a_statement l (Tests e)) (then_comes (of_block main) (of_block rest))

  module _ (l : ℕ) (e : RawExpr) (a b main rest : List RawStatement) (is : one ≡ s.If l e a b) (same : main ≡ a) (also : rest ≡ b) where
    pub fork_walks : Walks (of_fork l e main rest) old new r → Walks (of_statement stand one) old new r
    fork_walks h =
        form_walks (s.If l e a b) is (of_fork l e main rest)
        (ap (standing stand) (scoped-If old.raw.now l e a b) ∙ ap (λ ss. of_fork l e ss b old.raw.now) (sym same) ∙ ap (λ ss. of_fork l e main ss old.raw.now) (sym also)) h

  pub for_walks : (l : ℕ) (i : Option RawStatement) (e : RawExpr) (step : Option RawStatement) (b body : List RawStatement) → one ≡ s.For l i e step b → body ≡ b
      → Walks (then_comes a_number (enclosed (of_for l i e step body))) old new r → Walks (of_statement stand one) old new r
  for_walks l i e step b body is same h =
      form_walks (s.For l i e step b) is (then_comes a_number (enclosed (of_for l i e step body)))
      (for_is old.raw.now stand l i e step b ∙ ap (λ ss. then_comes a_number (enclosed (of_for l i e step ss)) old.raw.now) (sym same)) h

  abbrev of_switch : ℕ → RawExpr → List RawArm → Stretch
  of_switch l e arms = then_comes (a_statement l (Switches e (labels_in arms))) (enclosed (of_arms arms))

  pub switch_walks : (l : ℕ) (e : RawExpr) (arms : List RawArm) → one ≡ s.Switch l e arms → Walks (of_switch l e arms) old new r → Walks (of_statement stand one) old new r
  switch_walks l e arms is h =
      let raw = old.raw.now in
      let scope = scope_of old in
      let form : (of_statement stand (s.Switch l e arms) raw).gives scope ≡ (of_switch l e arms raw).gives scope =
      ap (λ (x : Scoped (Stand → Phrases)). x.gives scope stand) (scoped-Switch raw l e arms)
      ∙ ap (λ ls. phrase l scope (Switches e ls) ∷ phrases_of_arms (in_order (map (scoped_of_arm raw) arms) (opened (numbered scope)))) (labels-arms raw arms (opened (numbered scope))) in
      restated (of_statement stand (s.Switch l e arms)) (of_statement stand one) old new r (ap (λ y. of_statement stand y raw) (sym is))
      (restated_at (of_switch l e arms) (of_statement stand (s.Switch l e arms)) old new r (sym form)
      (sym (ap (λ (x : Scoped (Stand → Phrases)). x.after scope) (scoped-Switch raw l e arms))) h)

-- an if, whose first block or second is walked last
module _ (l : ℕ) (e : RawExpr) (main rest : List RawStatement) (old tested : Tables) (first : Walks (a_statement l (Tests e)) old tested (Ok tt)) where
  pub yes_stops : (new : Tables) (f : WalkFault) → Walks (of_block main) tested new (Err f) → Walks (then_comes (a_statement l (Tests e)) (then_comes (of_block main) (of_block rest))) old new (Err f)
  yes_stops new f h =
      two (a_statement l (Tests e)) (then_comes (of_block main) (of_block rest)) old tested new (Err f) first (first_stops (of_block main) (of_block rest) tested new f h)

  pub no_walks : (mid new : Tables) (r : Outcome) → Walks (of_block main) tested mid (Ok tt) → Walks (of_block rest) mid new r
      → Walks (then_comes (a_statement l (Tests e)) (then_comes (of_block main) (of_block rest))) old new r
  no_walks mid new r second third =
      two (a_statement l (Tests e)) (then_comes (of_block main) (of_block rest)) old tested new r first (two (of_block main) (of_block rest) tested mid new r second third)

-- the parts of a for, one after another
module _ (l : ℕ) (i : Option RawStatement) (e : RawExpr) (step : Option RawStatement) (body : List RawStatement) (old : Tables) (right : AreRight old) where
  abbrev whole : Stretch
  whole = of_for l i e step body

  abbrev last_parts : Stretch
  last_parts = then_comes (of_part InBlock step) (of_block body)

  pub init_stops : (new : Tables) (f : WalkFault) → Walks (of_part InFor i) old new (Err f) → Walks whole old new (Err f)
  init_stops new f h = first_stops (of_part InFor i) (then_comes (one_phrase l (Tests e)) last_parts) old new f h

  module _ (begun : Tables) (init : Walks (of_part InFor i) old begun (Ok tt)) where
    past_init : Passed whole (then_comes (one_phrase l (Tests e)) last_parts) old begun
    past_init = turn whole old old (of_part InFor i) (then_comes (one_phrase l (Tests e)) last_parts) (begins whole old) begun init

    pub right_begun : AreRight begun
    right_begun = past_init.right right

    module _ (d : Result (Unit {0}) Fault) (h : Decides (check_test begun.raw.now (scope_of begun) e) d) where
      pub test_stops : (f : WalkFault) → Err f ≡ on_line l d → Walks whole old begun (Err f)
      test_stops f is = stops whole old begun (one_phrase l (Tests e)) last_parts past_init begun f (walks_phrase begun right_begun l (Tests e) d h (Err f) is)

      module _ (is : Ok tt ≡ on_line l d) where
        past_test : Passed whole last_parts old begun
        past_test = turn whole old begun (one_phrase l (Tests e)) last_parts past_init begun (walks_phrase begun right_begun l (Tests e) d h (Ok tt) is)

        pub step_stops : (new : Tables) (f : WalkFault) → Walks (of_part InBlock step) begun new (Err f) → Walks whole old new (Err f)
        step_stops new f w = stops whole old begun (of_part InBlock step) (of_block body) past_test new f w

        module _ (stepped : Tables) (w : Walks (of_part InBlock step) begun stepped (Ok tt)) where
          past_step : Passed whole (of_block body) old stepped
          past_step = turn whole old begun (of_part InBlock step) (of_block body) past_test stepped w

          pub for_parts_walk : (new : Tables) (r : Outcome) → Walks (of_block body) stepped new r → Walks whole old new r
          for_parts_walk new r k = ends whole old stepped (of_block body) past_step new r k

-- a for, whose parts are walked behind its number, in a block of its own
module _ (stand : Stand) (one : RawStatement) (l : ℕ) (i : Option RawStatement) (e : RawExpr) (step : Option RawStatement) (b body : List RawStatement)
    (is : one ≡ s.For l i e step b) (same : body ≡ b) (old counted opens : Tables) (number : IsAt old counted (numbered (scope_of old))) (opening : IsAt counted opens (opened (scope_of counted))) where
  abbrev parts : Stretch
  parts = of_for l i e step body

  pub for_stops : (new : Tables) (f : WalkFault) → Walks parts opens new (Err f) → Walks (of_statement stand one) old new (Err f)
  for_stops new f h =
      for_walks old stand one new (Err f) l i e step b body is same
      (two a_number (enclosed parts) old counted new (Err f) (tt, number) (enclosed_stops parts counted opens new new (record { names = 0; outer = 0; owner = None }) f opening h))

  pub for_returns : (inside closes : Tables) (before : Before) → before.names ≡ length (scope_of counted).names → before.outer ≡ (scope_of counted).outer → before.owner ≡ (scope_of counted).owner
      → Walks parts opens inside (Ok tt)
      → IsAt inside closes (record (scope_of inside) { names = take before.names (scope_of inside).names; outer = before.outer; owner = before.owner })
      → Walks (of_statement stand one) old closes (Ok tt)
  for_returns inside closes before names outer owner h closing =
      for_walks old stand one closes (Ok tt) l i e step b body is same
      (two a_number (enclosed parts) old counted closes (Ok tt) (tt, number)
      (encloses parts counted opens inside closes before (λ raw. for_grows raw l i e step body) names outer owner opening h closing))

-- a switch, by its head and its arms
module _ (stand : Stand) (one : RawStatement) (l : ℕ) (e : RawExpr) (arms : List RawArm) (is : one ≡ s.Switch l e arms) (old : Tables) where
  abbrev head_of : List RawArm → Stretch
  head_of as_ = a_statement l (Switches e (labels_in as_))

  pub head_stops : (list : List RawArm) → list ≡ arms → (new : Tables) (f : WalkFault) → Walks (head_of list) old new (Err f) → Walks (of_statement stand one) old new (Err f)
  head_stops list same new f h =
      switch_walks old stand one new (Err f) l e arms is
      (first_stops (head_of arms) (enclosed (of_arms arms)) old new f (subst (λ as_. Walks (head_of as_) old new (Err f)) same h))

  pub arms_walk : (list again : List RawArm) → list ≡ arms → again ≡ arms → (mid new : Tables) (r : Outcome) → Walks (head_of list) old mid (Ok tt) → Walks (enclosed (of_arms again)) mid new r
      → Walks (of_statement stand one) old new r
  arms_walk list again same also mid new r first second =
      switch_walks old stand one new r l e arms is
      (two (head_of arms) (enclosed (of_arms arms)) old mid new r (subst (λ as_. Walks (head_of as_) old mid (Ok tt)) same first)
      (subst (λ as_. Walks (enclosed (of_arms as_)) mid new r) also second))
