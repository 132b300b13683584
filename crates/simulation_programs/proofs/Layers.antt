-- The projection of each layer of a statement, from what is known of the statements and arms in it.
use Rattle.std.proofs.Common.{◌≡◌, ℕ, ℤ, List, [], ◌∷◌, ◌++◌, append-nil, map, Option, Some, None, Bool, true, false, ◌&&◌, ◌||◌, ◌==◌, eq-eqb, refl, sym, ap, ◌∙◌, subst, ap₂, arith, Contains}
use Rattle.std.specs.Option.{option_to_list}
use Rattle.std.specs.Prelude.{option_map}
use Rattle.std.proofs.lemmas.Bool.{false≢true, and_parts, or_parts, or_left, and_from}
use Rattle.c_tree.specs.declared.expr.Expr.{Expr}
use Rattle.c_tree.specs.declared.program.Program.{Program}
use Rattle.c_tree.specs.declared.statement.Arm.{Arm, roll-Arm, out-Arm, fold-roll-Arm}
use Rattle.c_tree.specs.declared.statement.Label.{Label}
use Rattle.c_tree.specs.declared.statement.Statement.{Statement, roll-Statement, fold-roll-Statement}
use Rattle.c_tree.specs.declared.statement.Statement.TheOpen.{Statement-F, Arm-F}
use Rattle.c_tree.specs.declared.statement.Statement.TheVariants as s
use Rattle.c_tree.specs.declared.statement.Statement.TheViews.{out-roll-Statement, out-roll-Arm}
use Rattle.c_tree.specs.declared.statement.Target.{Target}
use Rattle.c_tree.specs.Numbered.{StandsIn, layer_inner, arms_inner}
use Rattle.c_tree.specs.Numbered.StandsIn.{here, inside}
use Rattle.c_tree.proofs.SearchLemmas.{stands_left, stands_right}
use Rattle.c_tree.proofs.Trees.{StatementParts, statement_layer, ArmParts, arm_layer, of_every_statement}
use Rattle.c_language.specs.Code as language
use Rattle.c_language.specs.Code.{Act, Begins, Sets, Bumps, Fetches, Writes, Prints, Allocates, Frees, Returns, Code, End, Plain, Fork, Loop, Call, ◌⨟◌, leave, is_true, StatementPart, doing, declared_in, list_of, given_to, has_case, has_default, ArmPart, default_arm, case_arm, taken_arm, part_step, arm_step, part}
use Rattle.c_language.proofs.CodeLemmas.{arm_part, part_list, block_of}
use Rattle.c_language.specs.Names.{names, any_names, init_names, target_names, amount_names}
use Rattle.kept_numbers.specs.Ranks.{rank}
use Rattle.projection.specs.Kept.{KeptWords, Kept, chosen}
use Rattle.projection.specs.Names.{any_of, call_names, refers_step, refers_arm, refers, arm_refers}
use Rattle.projection.specs.Renumbering.{renamed, renamed_init, renamed_target, renamed_amount, renamed_label}
use Rattle.projection.specs.Projection.{if_so, first_statement, called, projected_step, projected_arm_step}
use Rattle.projection.specs.Projection as Projection
use Rattle.projection.proofs.NamesPass.{NamesPass, left_pass, right_pass}
use Rattle.projection_laws.specs.Nested.{governs}
use Rattle.projection_laws.specs.Staying.{Rest, any_stays, all_clear, rest_step, rest_arm}
use Rattle.c_meaning.proofs.Codes.{layer_part, part-roll}
use Rattle.own_words.specs.OwnWords.{words_kept, splits, layer_parts, for_parts}
use Rattle.own_words.proofs.Forms.{left, arm_left, all_left, part_left, step_left, step_refers}
use Rattle.own_words.proofs.Parts.{short}
use Rattle.own_words.proofs.Words.{numbers}
use Rattle.simulation.specs.Places.{kept_target}
use Rattle.simulation_places.specs.ProjectedCode.{renamed_act}
use Rattle.simulation_programs.proofs.NothingLeft.{subjects, rested, arm_rested, layer_rest, rest-roll, left-roll, nothing_left, none_left}
use Rattle.simulation_programs.proofs.StatementParts.{gathered, part_form, part_list-map}
use Rattle.simulation_programs.proofs.Forms.{Makes, Turns, Puts, makes_none, makes_both, turns_list, turns_block, turns_then, makes_one, makes_begun, makes_bare, makes_given, makes_call, puts_act, puts_fork, puts_loop, puts_do, makes_for, makes_block}
use Rattle.simulation_programs.proofs.Arms.{ArmTurns, same_cases, same_default, either_turns, either_ends, ArmsTurn, none, more, taken_turns, if_ends}

unkept_none : (b within : Bool) → governs b within ≡ true → b ≡ false → within ≡ false
unkept_none true within g h = absurd (false≢true (sym h))
unkept_none false true g h = absurd (false≢true g)
unkept_none false false g h = refl

module _ (p : Program) (k : Kept ℕ) where
  abbrev keeps : ℕ → Bool
  keeps = k.statement

  abbrev vars : ℕ → Bool
  vars = k.variable

  abbrev words : KeptWords
  words = words_kept k

  -- ---- what is asked of statements

  -- what a for begins with, and its step, become one statement or none
  abbrev pub PartsLone : List Statement → Type 0
  PartsLone xs = (y q : Statement) → StandsIn xs y → Contains (for_parts y) q → splits k q ≡ false

  -- nothing is left in an if, loop or switch that isn't kept, kept words name variables that stay, and the parts of a for stay one
  -- statement each, or none
  pub record Met (clear : Bool) (named : ℕ → Bool) (xs : List Statement) : Type 0 where
    pub clear_is : clear ≡ true
    pub names_stay : NamesPass named vars
    pub lone : PartsLone xs

  abbrev MetOne : Statement → Type 0
  MetOne x = Met (rested p k x).clear (refers words x) (x ∷ [])

  abbrev pub MetAll : List Statement → Type 0
  MetAll xs = Met (all_clear (map (rested p k) xs)) (any_of (map (refers words) xs)) xs

  met_parts : (a b : Bool) (m n : ℕ → Bool) (xs ys : List Statement) → Met (a && b) (λ v. m v || n v) (xs ++ ys) → Met a m xs × Met b n ys
  met_parts a b m n xs ys h =
      let both = and_parts a b h.clear_is in (
        record { clear_is = both.0; names_stay = left_pass m n h.names_stay; lone = λ y q w. h.lone y q (stands_left w ys) },
        record { clear_is = both.1; names_stay = right_pass m n h.names_stay; lone = λ y q w. h.lone y q (stands_right xs w) },
      )

  -- ---- facts about statements and arms

  abbrev Fits : Statement → Type 0
  Fits x = MetOne x → Makes p k (part x) (left p k x)

  abbrev ArmFits : Arm → Type 0
  ArmFits a = Met (arm_rested p k a).clear (arm_refers words a) (out-Arm a).body → ArmTurns p k (arm_rested p k a).stays (arm_part a) (arm_part (arm_left p k a))

  abbrev Facts : Type 0
  Facts = List ((x : Statement) × Fits x)

  own_named : (id : ℕ) (named : ℕ → Bool) → NamesPass (λ v. keeps id && named v) vars → keeps id ≡ true → NamesPass named vars
  own_named id named h kept v n = h v (and_from _ _ kept n)

  list_fits : (ys : Facts) → MetAll (subjects ys) → Makes p k (gathered (map part (subjects ys))) (all_left p k (subjects ys))
  list_fits [] m = makes_none p k
  list_fits (y ∷ ys) m =
      let both = met_parts (rested p k y.0).clear (all_clear (map (rested p k) (subjects ys))) (refers words y.0) (any_of (map (refers words) (subjects ys))) (y.0 ∷ []) (subjects ys) m in
      makes_both p k (part y.0) (map part (subjects ys)) (left p k y.0) (all_left p k (subjects ys)) (y.1 both.0) (list_fits ys both.1)

  -- a block, where this is known of its statements
  block_fits : (ys : Facts) → MetAll (subjects ys) → Turns p k (block_of (subjects ys)) (block_of (all_left p k (subjects ys)))
  block_fits ys m = turns_block p k (map part (subjects ys)) (all_left p k (subjects ys)) (list_fits ys m)

  no_block : (xs : List Statement) → any_stays (map (rested p k) xs) ≡ false → block_of (all_left p k xs) ≡ End
  no_block xs h = ap block_of (none_left p k xs h)

  -- ---- the parts of a for

  abbrev subject : Option ((x : Statement) × Fits x) → Option Statement
  subject None = None
  subject (Some y) = Some y.0

  abbrev part_stays : Option Statement → Bool
  part_stays None = false
  part_stays (Some x) = (rested p k x).stays

  abbrev part_clear : Option Statement → Bool
  part_clear None = true
  part_clear (Some x) = (rested p k x).clear

  abbrev part_refers : Option Statement → ℕ → Bool
  part_refers None v = false
  part_refers (Some x) v = refers words x v

  abbrev part_lone : Option Statement → Type 0
  part_lone None = Unit {0}
  part_lone (Some x) = splits k x ≡ false

  abbrev PartMet : Option Statement → Type 0
  PartMet o = Met (part_clear o) (part_refers o) (option_to_list o)

  part_fits : (o : Option ((x : Statement) × Fits x)) → part_lone (subject o) → PartMet (subject o) → Makes p k (gathered (part_list (subject o))) (option_to_list (part_left p k (subject o)))
  part_fits None l m = makes_none p k
  part_fits (Some y) l m =
      subst (Makes p k (gathered (part y.0 ∷ []))) (append-nil (left p k y.0) ∙ sym (short p k y.0 l)) (makes_both p k (part y.0) [] (left p k y.0) [] (y.1 m) (makes_none p k))

  no_part : (o : Option Statement) → part_stays o ≡ false → part_left p k o ≡ None
  no_part None h = refl
  no_part (Some x) h = ap first_statement (nothing_left p k x h)

  for_fits : (id l : ℕ) (i : Option ((x : Statement) × Fits x)) (e : Expr) (step : Option ((x : Statement) × Fits x)) (ys : Facts)
      → part_lone (subject i) → part_lone (subject step)
      → Met (governs (keeps id) (part_stays (subject step) || any_stays (map (rested p k) (subjects ys))) && (part_clear (subject i) && (part_clear (subject step) && all_clear (map (rested p k) (subjects ys)))))
      (λ v. (keeps id && names e v) || (part_refers (subject i) v || (part_refers (subject step) v || any_of (map (refers words) (subjects ys)) v)))
      (option_to_list (subject i) ++ (option_to_list (subject step) ++ subjects ys))
      → Makes p k (doing (λ r. list_of (part_list (subject i)) ⨟ Loop id e (block_of (subjects ys) ⨟ list_of (part_list (subject step))) (leave (declared_in (part_list (subject i))) r)))
      (if_so (keeps id) (s.For (rank keeps id) l (part_left p k (subject i)) (renamed (rank vars) e) (part_left p k (subject step)) (all_left p k (subjects ys)) ∷ []) (Projection.alone l (part_left p k (subject i))))
  for_fits id l i e step ys lone_i lone_step m =
      let stay = any_stays (map (rested p k) (subjects ys)) in
      let clear = all_clear (map (rested p k) (subjects ys)) in
      let within : ℕ → Bool = any_of (map (refers words) (subjects ys)) in
      let parts = met_parts (governs (keeps id) (part_stays (subject step) || stay)) (part_clear (subject i) && (part_clear (subject step) && clear)) (λ v. keeps id && names e v) (λ v. part_refers (subject i) v || (part_refers (subject step) v || within v)) [] (option_to_list (subject i) ++ (option_to_list (subject step) ++ subjects ys)) m in
      let first = met_parts (part_clear (subject i)) (part_clear (subject step) && clear) (part_refers (subject i)) (λ v. part_refers (subject step) v || within v) (option_to_list (subject i)) (option_to_list (subject step) ++ subjects ys) parts.1 in
      let repeated = met_parts (part_clear (subject step)) clear (part_refers (subject step)) within (option_to_list (subject step)) (subjects ys) first.1 in
      let steps = turns_list p k (part_list (subject step)) (option_to_list (part_left p k (subject step))) (part_fits step lone_step repeated.0) in
      makes_for p k id l (part_list (subject i)) (part_left p k (subject i)) e (part_left p k (subject step)) (all_left p k (subjects ys)) (block_of (subjects ys) ⨟ list_of (part_list (subject step)))
      (part_fits i lone_i first.0)
      (turns_then p k (block_of (subjects ys)) (list_of (part_list (subject step))) _ _ (block_fits ys repeated.1) (subst (λ ps. Turns p k (list_of (part_list (subject step))) (list_of ps)) (part_list-map (part_left p k (subject step))) steps))
      (λ unkept. let none = or_parts (part_stays (subject step)) stay (unkept_none (keeps id) (part_stays (subject step) || stay) parts.0.clear_is unkept) in ap₂ (λ b o. b ⨟ list_of (part_list o)) (no_block (subjects ys) none.1) (no_part (subject step) none.0))

  -- ---- the arms of a switch

  abbrev bodies : List Arm → List ArmPart
  bodies as_ = map arm_part (map (arm_left p k) as_)

  abbrev ArmsMet : List Arm → Type 0
  ArmsMet as_ = Met (all_clear (map (arm_rested p k) as_)) (any_of (map (arm_refers words) as_)) (arms_inner as_)

  first_arm : (a : Arm) (as_ : List Arm) → ArmsMet (a ∷ as_) → Met (arm_rested p k a).clear (arm_refers words a) (out-Arm a).body × ArmsMet as_
  first_arm a as_ m =
      met_parts (arm_rested p k a).clear (all_clear (map (arm_rested p k) as_)) (arm_refers words a) (any_of (map (arm_refers words) as_)) (out-Arm a).body (arms_inner as_) m

  default_ends : (ys : List ((a : Arm) × ArmFits a)) → ArmsMet (subjects ys) → any_stays (map (arm_rested p k) (subjects ys)) ≡ false → default_arm (bodies (subjects ys)) ≡ End
  default_ends [] m h = refl
  default_ends (y ∷ ys) m h =
      let both = first_arm y.0 (subjects ys) m in
      let none = or_parts (arm_rested p k y.0).stays (any_stays (map (arm_rested p k) (subjects ys))) h in
      if_ends p k (has_default (arm_part (arm_left p k y.0)).labels) _ _ ((y.1 both.0).nothing none.0) (default_ends ys both.1 none.1)

  case_ends : (ys : List ((a : Arm) × ArmFits a)) (v : ℤ) (d : Code) → ArmsMet (subjects ys) → any_stays (map (arm_rested p k) (subjects ys)) ≡ false → d ≡ End → case_arm (bodies (subjects ys)) v d ≡ End
  case_ends [] v d m h e = e
  case_ends (y ∷ ys) v d m h e =
      let both = first_arm y.0 (subjects ys) m in
      let none = or_parts (arm_rested p k y.0).stays (any_stays (map (arm_rested p k) (subjects ys))) h in
      if_ends p k (has_case v (arm_part (arm_left p k y.0)).labels) _ _ ((y.1 both.0).nothing none.0) (case_ends ys v d both.1 none.1 e)

  arms_fit : (ys : List ((a : Arm) × ArmFits a)) → ArmsMet (subjects ys) → ArmsTurn p k (map arm_part (subjects ys)) (bodies (subjects ys))
  arms_fit [] m = none
  arms_fit (y ∷ ys) m = let both = first_arm y.0 (subjects ys) m in more (y.1 both.0) (arms_fit ys both.1)

  -- ---- each layer

  abbrev new : Expr → Expr
  new = renamed (rank vars)

  abbrev stay_in : Facts → Bool
  stay_in ys = any_stays (map (rested p k) (subjects ys))

  abbrev clear_in : Facts → Bool
  clear_in ys = all_clear (map (rested p k) (subjects ys))

  abbrev refers_in : Facts → ℕ → Bool
  refers_in ys = any_of (map (refers words) (subjects ys))

  act_fits : (id : ℕ) (a : Act) (x : Statement) → part x ≡ doing (Plain (rank keeps id) (renamed_act (rank vars) a)) → Makes p k (doing (Plain id a)) (if_so (keeps id) (x ∷ []) [])
  act_fits id a x is = makes_one p k id x (Plain id a) (Plain (rank keeps id) (renamed_act (rank vars) a)) is (puts_act p k id a)

  given_fits : (id l : ℕ) (to : Target) (a : Act) (x : Statement) → part x ≡ given_to (renamed_target (rank vars) to) (Plain (rank keeps id) (renamed_act (rank vars) a)) → (keeps id ≡ true → NamesPass (target_names to) vars)
      → Makes p k (given_to to (Plain id a)) (if_so (keeps id) (x ∷ []) (Projection.bare_target k (numbers p k) l to))
  given_fits id l to a x is t = makes_given p k id l to x (Plain id a) (Plain (rank keeps id) (renamed_act (rank vars) a)) is t (puts_act p k id a)

  call_puts : (id : ℕ) (to : Target) (f : ℕ) (args : List Expr) → Puts p k id (Call id to f args) (Call (rank keeps id) (kept_target (k.result id) (renamed_target (rank vars) to)) (numbers p k f) (map new (chosen (k.argument id) 0 args)))
  call_puts id to f args = record { same = λ r. refl; nested = λ r h. h }

  call_fits : (id l : ℕ) (to : Target) (f : ℕ) (args : List Expr) → NamesPass (λ v. keeps id && call_names words id to args v) vars
      → Makes p k (given_to to (Call id to f args)) (if_so (keeps id) (Projection.projected_call k (numbers p k) id l to f args) (Projection.bare_target k (numbers p k) l to))
  call_fits id l to f args n =
      let kept_args : List Expr = map new (chosen (k.argument id) 0 args) in
      makes_call p k (k.result id) id l to (λ t. called k (numbers p k) id l t f args) (Call id to f args) (λ t. Call (rank keeps id) t (numbers p k f) kept_args)
      (λ t. part_form _ (Statement-F.Invoke (rank keeps id) l t (numbers p k f) kept_args) (s.rolls-Invoke (rank keeps id) l t (numbers p k f) kept_args))
      (λ stored kept v named. n v (and_from _ _ kept (or_left (k.result id && target_names to v) (any_names (chosen (k.argument id) 0 args) v) (and_from _ _ stored named))))
      (call_puts id to f args)

  if_fits : (id l : ℕ) (e : Expr) (xs ys : Facts) → Met (governs (keeps id) (stay_in xs || stay_in ys) && (clear_in xs && clear_in ys)) (λ v. (keeps id && names e v) || (refers_in xs v || refers_in ys v)) (subjects xs ++ subjects ys)
      → Makes p k (doing (Fork id e (λ v. language.either (is_true v) (block_of (subjects xs)) (block_of (subjects ys))))) (if_so (keeps id) (s.If (rank keeps id) l (new e) (all_left p k (subjects xs)) (all_left p k (subjects ys)) ∷ []) [])
  if_fits id l e xs ys m =
      let parts = met_parts (governs (keeps id) (stay_in xs || stay_in ys)) (clear_in xs && clear_in ys) (λ v. keeps id && names e v) (λ v. refers_in xs v || refers_in ys v) [] (subjects xs ++ subjects ys) m in
      let both = met_parts (clear_in xs) (clear_in ys) (refers_in xs) (refers_in ys) (subjects xs) (subjects ys) parts.1 in
      let lefts = all_left p k (subjects xs) in
      let rights = all_left p k (subjects ys) in
      makes_one p k id (s.If (rank keeps id) l (new e) lefts rights) _ _ (part_form _ (Statement-F.If (rank keeps id) l (new e) lefts rights) (s.rolls-If (rank keeps id) l (new e) lefts rights))
      (puts_fork p k id e (λ v. language.either (is_true v) (block_of (subjects xs)) (block_of (subjects ys))) (λ v. language.either (is_true v) (block_of lefts) (block_of rights))
      (λ v. either_turns p k (is_true v) _ _ _ _ (block_fits xs both.0) (block_fits ys both.1))
      (λ unkept v. let none = or_parts (stay_in xs) (stay_in ys) (unkept_none (keeps id) (stay_in xs || stay_in ys) parts.0.clear_is unkept) in either_ends p k (is_true v) _ _ (no_block (subjects xs) none.0) (no_block (subjects ys) none.1)))

  -- what is known of the body of a loop
  record Turning (id : ℕ) (ys : Facts) : Type 0 where
    turns : Turns p k (block_of (subjects ys)) (block_of (all_left p k (subjects ys)))
    ends : keeps id ≡ false → block_of (all_left p k (subjects ys)) ≡ End

  turning : (id : ℕ) (e : Expr) (ys : Facts) → Met (governs (keeps id) (stay_in ys) && clear_in ys) (λ v. (keeps id && names e v) || refers_in ys v) (subjects ys) → Turning id ys
  turning id e ys m =
      let parts = met_parts (governs (keeps id) (stay_in ys)) (clear_in ys) (λ v. keeps id && names e v) (refers_in ys) [] (subjects ys) m in
      record {
        turns = block_fits ys parts.1;
        ends = λ unkept. no_block (subjects ys) (unkept_none (keeps id) (stay_in ys) parts.0.clear_is unkept);
      }

  while_fits : (id l : ℕ) (e : Expr) (ys : Facts) → Turning id ys → Makes p k (doing (Loop id e (block_of (subjects ys)))) (if_so (keeps id) (s.While (rank keeps id) l (new e) (all_left p k (subjects ys)) ∷ []) [])
  while_fits id l e ys t =
      let body = all_left p k (subjects ys) in
      makes_one p k id (s.While (rank keeps id) l (new e) body) _ _ (part_form _ (Statement-F.While (rank keeps id) l (new e) body) (s.rolls-While (rank keeps id) l (new e) body)) (puts_loop p k id e (block_of (subjects ys)) (block_of body) t.turns t.ends)

  do_fits : (id l : ℕ) (e : Expr) (ys : Facts) → Turning id ys → Makes p k (doing (λ r. block_of (subjects ys) ⨟ Loop id e (block_of (subjects ys)) r)) (if_so (keeps id) (s.Do (rank keeps id) l (new e) (all_left p k (subjects ys)) ∷ []) [])
  do_fits id l e ys t =
      let body = all_left p k (subjects ys) in
      makes_one p k id (s.Do (rank keeps id) l (new e) body) _ _ (part_form _ (Statement-F.Do (rank keeps id) l (new e) body) (s.rolls-Do (rank keeps id) l (new e) body)) (puts_do p k id e (block_of (subjects ys)) (block_of body) t.turns t.ends)

  switch_fits : (id l : ℕ) (e : Expr) (ys : List ((a : Arm) × ArmFits a)) → Met (governs (keeps id) (any_stays (map (arm_rested p k) (subjects ys))) && all_clear (map (arm_rested p k) (subjects ys))) (λ v. (keeps id && names e v) || any_of (map (arm_refers words) (subjects ys)) v) (arms_inner (subjects ys))
      → Makes p k (doing (Fork id e (taken_arm (map arm_part (subjects ys))))) (if_so (keeps id) (s.Switch (rank keeps id) l (new e) (map (arm_left p k) (subjects ys)) ∷ []) [])
  switch_fits id l e ys m =
      let stay = any_stays (map (arm_rested p k) (subjects ys)) in
      let parts = met_parts (governs (keeps id) stay) (all_clear (map (arm_rested p k) (subjects ys))) (λ v. keeps id && names e v) (any_of (map (arm_refers words) (subjects ys))) [] (arms_inner (subjects ys)) m in
      let arms = map (arm_left p k) (subjects ys) in
      makes_one p k id (s.Switch (rank keeps id) l (new e) arms) _ _ (part_form _ (Statement-F.Switch (rank keeps id) l (new e) arms) (s.rolls-Switch (rank keeps id) l (new e) arms))
      (puts_fork p k id e (taken_arm (map arm_part (subjects ys))) (taken_arm (bodies (subjects ys)))
      (taken_turns p k (map arm_part (subjects ys)) (bodies (subjects ys)) (arms_fit ys parts.1))
      (λ unkept v. let none = unkept_none (keeps id) stay parts.0.clear_is unkept in case_ends ys v (default_arm (bodies (subjects ys))) parts.1 none (default_ends ys parts.1 none)))

  -- the parts of a for are one statement each, or none
  abbrev LayerLone : Statement-F Statement Arm → Type 0
  LayerLone z = (q : Statement) → Contains (layer_parts z) q → splits k q ≡ false

  abbrev LayerFits : Statement-F Statement Arm → Type 0
  LayerFits z = LayerLone z → Met (layer_rest p k z).clear (step_refers p k z) (layer_inner z) → Makes p k (layer_part z) (step_left p k z)

  fits_layer : (y : StatementParts Fits ArmFits) → LayerFits (statement_layer Fits ArmFits y)
  fits_layer (Statement-F.Declare None l x i) o m = makes_bare p k l x
  fits_layer (Statement-F.Declare (Some id) l x i) o m =
      let acts = puts_act p k id (Begins x i) in
      makes_begun p k (keeps id) l x (s.Declare (Some (rank keeps id)) l (rank vars x) (renamed_init (rank vars) i)) (Plain id (Begins x i)) (Plain (rank keeps id) (Begins (rank vars x) (renamed_init (rank vars) i)))
      (part_form _ (Statement-F.Declare (Some (rank keeps id)) l (rank vars x) (renamed_init (rank vars) i)) (s.rolls-Declare (Some (rank keeps id)) l (rank vars x) (renamed_init (rank vars) i)))
      (λ kept. m.names_stay x (and_from _ _ kept (or_left (x == x) (init_names i x) (eq-eqb x x refl)))) acts.same acts.nested
  fits_layer (Statement-F.Assign id l a op b) o m = act_fits id (Sets a op b) _ (part_form _ (Statement-F.Assign (rank keeps id) l (new a) op (new b)) (s.rolls-Assign (rank keeps id) l (new a) op (new b)))
  fits_layer (Statement-F.Bump id l a up before) o m = act_fits id (Bumps a up) _ (part_form _ (Statement-F.Bump (rank keeps id) l (new a) up before) (s.rolls-Bump (rank keeps id) l (new a) up before))
  fits_layer (Statement-F.Invoke id l to f args) o m = call_fits id l to f args m.names_stay
  fits_layer (Statement-F.Fetch id l to) o m =
      given_fits id l to (Fetches to) _ (part_form _ (Statement-F.Fetch (rank keeps id) l (renamed_target (rank vars) to)) (s.rolls-Fetch (rank keeps id) l (renamed_target (rank vars) to))) (own_named id (target_names to) m.names_stay)
  fits_layer (Statement-F.Write id l a) o m = act_fits id (Writes a) _ (part_form _ (Statement-F.Write (rank keeps id) l (new a)) (s.rolls-Write (rank keeps id) l (new a)))
  fits_layer (Statement-F.Print id l format args) o m = act_fits id (Prints format args) _ (part_form _ (Statement-F.Print (rank keeps id) l format (map new args)) (s.rolls-Print (rank keeps id) l format (map new args)))
  fits_layer (Statement-F.Heap id l to cast n) o m =
      given_fits id l to (Allocates to n) _ (part_form _ (Statement-F.Heap (rank keeps id) l (renamed_target (rank vars) to) cast (renamed_amount (rank vars) n)) (s.rolls-Heap (rank keeps id) l (renamed_target (rank vars) to) cast (renamed_amount (rank vars) n)))
      (λ kept. left_pass (target_names to) (amount_names n) (own_named id (λ v. target_names to v || amount_names n v) m.names_stay kept))
  fits_layer (Statement-F.Release id l a) o m = act_fits id (Frees a) _ (part_form _ (Statement-F.Release (rank keeps id) l (new a)) (s.rolls-Release (rank keeps id) l (new a)))
  fits_layer (Statement-F.If id l e a b) o m = if_fits id l e a b m
  fits_layer (Statement-F.While id l e b) o m = while_fits id l e b (turning id e b m)
  fits_layer (Statement-F.Do id l e b) o m = do_fits id l e b (turning id e b m)
  fits_layer (Statement-F.For id l None e None b) o m = for_fits id l None e None b tt tt m
  fits_layer (Statement-F.For id l None e (Some y) b) o m = for_fits id l None e (Some y) b tt (o y.0 (0, omega arith, refl)) m
  fits_layer (Statement-F.For id l (Some x) e None b) o m = for_fits id l (Some x) e None b (o x.0 (0, omega arith, refl)) tt m
  fits_layer (Statement-F.For id l (Some x) e (Some y) b) o m = for_fits id l (Some x) e (Some y) b (o x.0 (0, omega arith, refl)) (o y.0 (1, omega arith, refl)) m
  fits_layer (Statement-F.Switch id l e arms) o m = switch_fits id l e arms m
  fits_layer (Statement-F.Block l b) o m = makes_block p k l (map part (subjects b)) (all_left p k (subjects b)) (list_fits b m)
  fits_layer (Statement-F.Return id l a) o m = act_fits id (Returns a) _ (part_form _ (Statement-F.Return (rank keeps id) l (option_map new a)) (s.rolls-Return (rank keeps id) l (option_map new a)))

  -- what is asked of a statement is asked of its layer
  layer_met : (z : Statement-F Statement Arm) → MetOne (roll-Statement z) → Met (layer_rest p k z).clear (step_refers p k z) (layer_inner z)
  layer_met z m = record {
    clear_is = sym (ap (λ (r : Rest). r.clear) (rest-roll p k z)) ∙ m.clear_is;
    names_stay = subst (λ (named : ℕ → Bool). NamesPass named vars) (fold-roll-Statement (ℕ → Bool) (ℕ → Bool) (refers_step words) (refers_arm words) z) m.names_stay;
    lone = λ y q w. m.lone y q (inside (subst (λ (u : Statement-F Statement Arm). StandsIn (layer_inner u) y) (sym (out-roll-Statement z)) w));
  }

  layer_lone : (z : Statement-F Statement Arm) → MetOne (roll-Statement z) → LayerLone z
  layer_lone z m q h = m.lone (roll-Statement z) q here (subst (λ (u : Statement-F Statement Arm). Contains (layer_parts u) q) (sym (out-roll-Statement z)) h)

  fits_roll : (z : Statement-F Statement Arm) → LayerFits z → Fits (roll-Statement z)
  fits_roll z h m =
      subst (λ q. Makes p k q (left p k (roll-Statement z))) (sym (part-roll z)) (subst (Makes p k (layer_part z)) (sym (left-roll p k z)) (h (layer_lone z m) (layer_met z m)))

  -- ---- each arm

  arm_fits : (labels : List Label) (ys : Facts) → MetAll (subjects ys) → ArmTurns p k (stay_in ys) (record { labels = labels; does = block_of (subjects ys) }) (record { labels = map (renamed_label (rank vars)) labels; does = block_of (all_left p k (subjects ys)) })
  arm_fits labels ys m = record {
    does = block_fits ys m;
    cases = λ v. same_cases p k (rank vars) v labels;
    default = same_default p k (rank vars) labels;
    nothing = no_block (subjects ys);
  }

  same_turns : (t u : Bool) (a b c d : ArmPart) → t ≡ u → a ≡ c → b ≡ d → ArmTurns p k u c d → ArmTurns p k t a b
  same_turns t u a b c d e f g h = subst (λ x. ArmTurns p k x a b) (sym e) (subst (λ x. ArmTurns p k u x b) (sym f) (subst (ArmTurns p k u c) (sym g) h))

  arm_part_is : (z : Arm-F Statement Arm) → arm_part (roll-Arm z) ≡ record { labels = z.labels; does = block_of z.body }
  arm_part_is z = fold-roll-Arm StatementPart ArmPart part_step arm_step z

  arm_left_is : (z : Arm-F Statement Arm) → arm_left p k (roll-Arm z) ≡ roll-Arm (record { labels = map (renamed_label (rank vars)) z.labels; body = all_left p k z.body })
  arm_left_is z = fold-roll-Arm (List Statement) Arm (projected_step k (numbers p k)) (projected_arm_step k (numbers p k)) z

  fits_arm : (y : ArmParts Fits ArmFits) → ArmFits (roll-Arm (arm_layer Fits ArmFits y))
  fits_arm y m =
      let z : Arm-F Statement Arm = arm_layer Fits ArmFits y in
      let rests : arm_rested p k (roll-Arm z) ≡ record { stays = stay_in y.body; clear = clear_in y.body } = fold-roll-Arm Rest Rest (rest_step keeps vars) (rest_arm keeps vars) z in
      let refers_is : arm_refers words (roll-Arm z) ≡ refers_in y.body = fold-roll-Arm (ℕ → Bool) (ℕ → Bool) (refers_step words) (refers_arm words) z in
      same_turns (arm_rested p k (roll-Arm z)).stays (stay_in y.body) (arm_part (roll-Arm z)) (arm_part (arm_left p k (roll-Arm z))) _ _ (ap (λ (r : Rest). r.stays) rests) (arm_part_is z) (ap arm_part (arm_left_is z) ∙ arm_part_is _)
      (arm_fits y.labels y.body (record {
        clear_is = sym (ap (λ (r : Rest). r.clear) rests) ∙ m.clear_is;
        names_stay = subst (λ named. NamesPass named vars) refers_is m.names_stay;
        lone = λ x q w. m.lone x q (subst (λ (u : Arm-F Statement Arm). StandsIn u.body x) (sym (out-roll-Arm z)) w);
      }))

  -- what stays of each statement makes the projection of what it does
  pub fits : (x : Statement) → MetOne x → Makes p k (part x) (left p k x)
  fits = of_every_statement Fits ArmFits (λ y. fits_roll (statement_layer Fits ArmFits y) (fits_layer y)) fits_arm

  -- what stays of a list makes the projection of what the list does
  pub all_fit : (xs : List Statement) → MetAll xs → Makes p k (gathered (map part xs)) (all_left p k xs)
  all_fit [] m = makes_none p k
  all_fit (x ∷ xs) m =
      let both = met_parts (rested p k x).clear (all_clear (map (rested p k) xs)) (refers words x) (any_of (map (refers words) xs)) (x ∷ []) xs m in
      makes_both p k (part x) (map part xs) (left p k x) (all_left p k xs) (fits x both.0) (all_fit xs both.1)
