-- The walk along a list, turn by turn: what is made so far, and what is still to come.
use Rattle.std.proofs.Common.{◌≡◌, ℕ, ◌+◌, ◌<◌, ◌≤◌, List, [], ◌∷◌, ◌++◌, map, length, drop, get_or, Option, Some, option_map, append_assoc, append-nil, refl, sym, ap, subst, ◌∙◌}
use Rattle.std.proofs.lemmas.List.{map-append, drop_all}
use Rattle.std.proofs.lemmas.List.Elements.{Contains-append_left, Contains-append_right}
use Rattle.c_arith.specs.declared.int_type.IntType.{IntType}
use Rattle.c_tree.specs.declared.program.Var.{Var}
use Rattle.c_tree.specs.declared.statement.Arm.{Arm}
use Rattle.c_tree.specs.declared.statement.Statement.{Statement}
use Rattle.c_tree.specs.declared.raw.program.RawProgram.{RawProgram}
use Rattle.c_tree.specs.declared.raw.statement.RawArm.{RawArm}
use Rattle.c_tree.specs.declared.raw.statement.RawStatement.{RawStatement}
use Rattle.c_language.specs.Scopes.{Scope, in_order, after_all}
use Rattle.c_language.specs.Phrases.{Stand, InBlock, joined_at, labels_of, phrases_of_arms, scoped, scoped_of_arm, IsInside}
use Rattle.c_language.specs.ProgramOf.{collected, treed, ArmTree, variables_in, treed_arm}
use Rattle.c_language.proofs.Turns.{drop_turn}
use Rattle.c_language.proofs.PhraseLists.{variables-append}
use Rattle.c_language.proofs.TreeScopes.{after_same}
use Rattle.c_types_base.specs.Tables.{scope_of}
use Rattle.c_types_program.specs.declared.walk.Walk.{Walk}
use Rattle.c_types_trees.specs.FitPhrases.{AreFit, AreFitInside, IsFitInside}
use Rattle.c_types_program.specs.Statements.{Fits, HasTree, Passes, HaveTrees, AreLabels, HasArm, PassesArm, HaveArms}
use Rattle.c_types_program.specs.Variables.{Grow}
use Rattle.c_types_program.proofs.Growing.{grow_then, fit_both}
use Rattle.c_types_program.proofs.Passing.{same_arm}
use Rattle.c_types_program.proofs.Standing.{Stands, told, given, goes}

pub collected_made : {A : Type 0} (xs : List A) → collected (map Some xs) ≡ Some xs
collected_made [] = refl
collected_made (x ∷ xs) = ap (option_map (λ ys. x ∷ ys)) (collected_made xs)

-- one more is made
push_made : {A : Type 0} (out : List A) (x : A) (rest : List (Option A)) → map Some (out ++ x ∷ []) ++ rest ≡ map Some out ++ (Some x ∷ rest)
push_made out x rest = ap (λ ys. ys ++ rest) (map-append Some out (x ∷ [])) ∙ append_assoc (map Some out) (Some x ∷ []) rest

-- the variables that are made, and those still to come, are those of the whole
pub record Gaining (old new : Walk) (rest whole : List (Option Var)) : Type 0 where
  pub more : List (Option Var)
  pub grow : Grow old.variables new.variables more
  pub all : more ++ rest ≡ whole

pub gain : {old new next : Walk} {one rest whole : List (Option Var)} → Gaining old new (one ++ rest) whole → Grow new.variables next.variables one → Gaining old next rest whole
gain {one} {rest} h g = record { more = h.more ++ one; grow = grow_then h.grow g; all = append_assoc h.more one rest ∙ h.all }

pub gained : {old new : Walk} {whole : List (Option Var)} → Gaining old new [] whole → Grow old.variables new.variables whole
gained {old} {new} h = subst (Grow old.variables new.variables) (sym (append-nil h.more) ∙ h.all) h.grow

-- ---- statements

pub record Going (raw : RawProgram) (scope : Scope) (old new : Walk) (out : List Statement) (rest whole : List RawStatement) : Type 0 where
  pub now : Scope
  pub stands : Stands raw now new.tables
  pub fit : AreFitInside raw rest now
  pub trees : map Some out ++ in_order (map (treed raw) rest) now ≡ in_order (map (treed raw) whole) scope
  pub after : after_all (map (treed raw) rest) now ≡ after_all (map (treed raw) whole) scope
  pub gains : (stand : Stand) → IsInside stand
      → Gaining old new (variables_in raw (joined_at stand (in_order (map (scoped raw) rest) now))) (variables_in raw (joined_at stand (in_order (map (scoped raw) whole) scope)))

module _ {raw : RawProgram} {scope : Scope} {old new : Walk} {out : List Statement} {one : RawStatement} {rest whole : List RawStatement}
    (h : Going raw scope old new out (one ∷ rest) whole) where
  abbrev next : Scope
  next = (treed raw one).after h.now

  same_next : (scoped raw one).after h.now ≡ next
  same_next = sym (after_same raw one h.now)

  parts : AreFit raw ((scoped raw one).gives h.now h.fit.stand) × AreFit raw (joined_at h.fit.stand (in_order (map (scoped raw) rest) ((scoped raw one).after h.now)))
  parts = fit_both raw ((scoped raw one).gives h.now h.fit.stand) (joined_at h.fit.stand (in_order (map (scoped raw) rest) ((scoped raw one).after h.now))) h.fit.fit

  pub turn_fits : Fits new one
  turn_fits = given (λ r x. IsFitInside r one x) h.stands (record { stand = h.fit.stand; inside = h.fit.inside; fit = parts.0 })

  pub turn : (later : Walk) (x : Statement) → HasTree new one x → Passes new later one → Going raw scope old later (out ++ x ∷ []) rest whole
  turn later x tree passes = record {
    now = next;
    stands = goes (λ r y. (treed r one).after y) h.stands (passes InBlock tt).arrives;
    fit = record {
      stand = h.fit.stand;
      inside = h.fit.inside;
      fit = subst (λ y. AreFit raw (joined_at h.fit.stand (in_order (map (scoped raw) rest) y))) same_next parts.1;
    };
    trees =
        push_made out x (in_order (map (treed raw) rest) next)
        ∙ (ap (λ o. map Some out ++ (o ∷ in_order (map (treed raw) rest) next)) (sym (told (λ r y. (treed r one).gives y ≡ Some x) h.stands tree)) ∙ h.trees);
    after = h.after;
    gains = λ stand inside.
        gain (subst (λ vs. Gaining old new vs (variables_in raw (joined_at stand (in_order (map (scoped raw) whole) scope))))
        (variables-append raw ((scoped raw one).gives h.now stand) (joined_at stand (in_order (map (scoped raw) rest) ((scoped raw one).after h.now)))
        ∙ ap (λ y. variables_in raw ((scoped raw one).gives h.now stand) ++ variables_in raw (joined_at stand (in_order (map (scoped raw) rest) y))) same_next)
        (h.gains stand inside))
        (told (λ r y. Grow new.variables later.variables (variables_in r ((scoped r one).gives y stand))) h.stands (passes stand inside).grow);
  }

pub all_made : {w v : Walk} {out : List Statement} {whole : List RawStatement} → Going w.tables.raw.now (scope_of w.tables) w v out [] whole → HaveTrees w whole out
all_made {out} h = ap collected (sym h.trees ∙ append-nil (map Some out)) ∙ collected_made out

-- ---- arms

pub record GoingArms (raw : RawProgram) (scope : Scope) (t : IntType) (old new : Walk) (out : List Arm) (rest whole : List RawArm) : Type 0 where
  pub now : Scope
  pub stands : Stands raw now new.tables
  pub fit : AreFit raw (phrases_of_arms (in_order (map (scoped_of_arm raw) rest) now))
  pub labels : AreLabels raw (labels_of (in_order (map (scoped_of_arm raw) rest) now))
  pub trees : map Some out ++ map (λ (a : ArmTree). a t) (in_order (map (treed_arm raw) rest) now) ≡ map (λ (a : ArmTree). a t) (in_order (map (treed_arm raw) whole) scope)
  pub after : after_all (map (treed_arm raw) rest) now ≡ after_all (map (treed_arm raw) whole) scope
  pub gains : Gaining old new (variables_in raw (phrases_of_arms (in_order (map (scoped_of_arm raw) rest) now))) (variables_in raw (phrases_of_arms (in_order (map (scoped_of_arm raw) whole) scope)))

module _ {raw : RawProgram} {scope : Scope} {t : IntType} {old new : Walk} {out : List Arm} {one : RawArm} {rest whole : List RawArm}
    (h : GoingArms raw scope t old new out (one ∷ rest) whole) where
  abbrev next_arm : Scope
  next_arm = (treed_arm raw one).after h.now

  same_arm_next : (scoped_of_arm raw one).after h.now ≡ next_arm
  same_arm_next = sym (same_arm raw one h.now)

  arm_parts : AreFit raw ((scoped_of_arm raw one).gives h.now).phrases × AreFit raw (phrases_of_arms (in_order (map (scoped_of_arm raw) rest) ((scoped_of_arm raw one).after h.now)))
  arm_parts = fit_both raw ((scoped_of_arm raw one).gives h.now).phrases (phrases_of_arms (in_order (map (scoped_of_arm raw) rest) ((scoped_of_arm raw one).after h.now))) h.fit

  pub arm_turn_fits : AreFit new.tables.raw.now ((scoped_of_arm new.tables.raw.now one).gives (scope_of new.tables)).phrases
  arm_turn_fits = given (λ r x. AreFit r ((scoped_of_arm r one).gives x).phrases) h.stands arm_parts.0

  pub arm_turn_labels : AreLabels new.tables.raw.now ((scoped_of_arm new.tables.raw.now one).gives (scope_of new.tables)).labels
  arm_turn_labels =
      given (λ r x. AreLabels r ((scoped_of_arm r one).gives x).labels) h.stands
      (λ l c. h.labels l (Contains-append_left ((scoped_of_arm raw one).gives h.now).labels (labels_of (in_order (map (scoped_of_arm raw) rest) ((scoped_of_arm raw one).after h.now))) l c))

  pub arm_turn : (later : Walk) (x : Arm) → HasArm new t one x → PassesArm new later one → GoingArms raw scope t old later (out ++ x ∷ []) rest whole
  arm_turn later x tree passes = record {
    now = next_arm;
    stands = goes (λ r y. (treed_arm r one).after y) h.stands passes.arrives;
    fit = subst (λ y. AreFit raw (phrases_of_arms (in_order (map (scoped_of_arm raw) rest) y))) same_arm_next arm_parts.1;
    labels =
        subst (λ y. AreLabels raw (labels_of (in_order (map (scoped_of_arm raw) rest) y))) same_arm_next
        (λ l c. h.labels l (Contains-append_right ((scoped_of_arm raw one).gives h.now).labels (labels_of (in_order (map (scoped_of_arm raw) rest) ((scoped_of_arm raw one).after h.now))) l c));
    trees =
        push_made out x (map (λ (a : ArmTree). a t) (in_order (map (treed_arm raw) rest) next_arm))
        ∙ (ap (λ o. map Some out ++ (o ∷ map (λ (a : ArmTree). a t) (in_order (map (treed_arm raw) rest) next_arm))) (sym (told (λ r y. (treed_arm r one).gives y t ≡ Some x) h.stands tree)) ∙ h.trees);
    after = h.after;
    gains =
        gain (subst (λ vs. Gaining old new vs (variables_in raw (phrases_of_arms (in_order (map (scoped_of_arm raw) whole) scope))))
        (variables-append raw ((scoped_of_arm raw one).gives h.now).phrases (phrases_of_arms (in_order (map (scoped_of_arm raw) rest) ((scoped_of_arm raw one).after h.now)))
        ∙ ap (λ y. variables_in raw ((scoped_of_arm raw one).gives h.now).phrases ++ variables_in raw (phrases_of_arms (in_order (map (scoped_of_arm raw) rest) y))) same_arm_next)
        h.gains)
        (told (λ r y. Grow new.variables later.variables (variables_in r ((scoped_of_arm r one).gives y).phrases)) h.stands passes.grow);
  }

pub arms_made : {w v : Walk} {t : IntType} {out : List Arm} {whole : List RawArm} → GoingArms w.tables.raw.now (scope_of w.tables) t w v out [] whole → HaveArms w t whole out
arms_made {out} h = ap collected (sym h.trees ∙ append-nil (map Some out)) ∙ collected_made out

-- ---- the next turn of a loop, and its end

pub next_turn : {raw : RawProgram} {scope : Scope} {old new : Walk} {out : List Statement} {whole : List RawStatement} (list : List RawStatement) (i : ℕ) (one : RawStatement)
    → i < length list → one ≡ get_or list i one → Going raw scope old new out (drop i list) whole → Going raw scope old new out (one ∷ drop (i + 1) list) whole
next_turn {raw} {scope} {old} {new} {out} {whole} list i one low is h = subst (λ r. Going raw scope old new out r whole) (drop_turn list i one low is) h

pub last_turn : {raw : RawProgram} {scope : Scope} {old new : Walk} {out : List Statement} {whole : List RawStatement} (list : List RawStatement) (i : ℕ)
    → length list ≤ i → Going raw scope old new out (drop i list) whole → Going raw scope old new out [] whole
last_turn {raw} {scope} {old} {new} {out} {whole} list i low h = subst (λ r. Going raw scope old new out r whole) (drop_all i list low) h

pub pushed : {raw : RawProgram} {scope : Scope} {old new : Walk} {out more : List Statement} {rest whole : List RawStatement}
    → Going raw scope old new out rest whole → more ≡ out → Going raw scope old new more rest whole
pushed {raw} {scope} {old} {new} {out} {more} {rest} {whole} h is = subst (λ o. Going raw scope old new o rest whole) (sym is) h

pub next_arm_turn : {raw : RawProgram} {scope : Scope} {t : IntType} {old new : Walk} {out : List Arm} {whole : List RawArm} (list : List RawArm) (i : ℕ) (one : RawArm)
    → i < length list → one ≡ get_or list i one → GoingArms raw scope t old new out (drop i list) whole → GoingArms raw scope t old new out (one ∷ drop (i + 1) list) whole
next_arm_turn {raw} {scope} {t} {old} {new} {out} {whole} list i one low is h = subst (λ r. GoingArms raw scope t old new out r whole) (drop_turn list i one low is) h

pub last_arm_turn : {raw : RawProgram} {scope : Scope} {t : IntType} {old new : Walk} {out : List Arm} {whole : List RawArm} (list : List RawArm) (i : ℕ)
    → length list ≤ i → GoingArms raw scope t old new out (drop i list) whole → GoingArms raw scope t old new out [] whole
last_arm_turn {raw} {scope} {t} {old} {new} {out} {whole} list i low h = subst (λ r. GoingArms raw scope t old new out r whole) (drop_all i list low) h

pub arm_pushed : {raw : RawProgram} {scope : Scope} {t : IntType} {old new : Walk} {out more : List Arm} {rest whole : List RawArm}
    → GoingArms raw scope t old new out rest whole → more ≡ out → GoingArms raw scope t old new more rest whole
arm_pushed {raw} {scope} {t} {old} {new} {out} {more} {rest} {whole} h is = subst (λ o. GoingArms raw scope t old new o rest whole) (sym is) h

-- ---- a list whose elements are made one by one

pub made_turn : {A B : Type 0} (f : A → Option B) (list : List A) (i : ℕ) (x : A) (y : B) (out more : List B) (whole : List (Option B)) → i < length list → x ≡ get_or list i x
    → f x ≡ Some y → more ≡ out ++ y ∷ [] → map Some out ++ map f (drop i list) ≡ whole → map Some more ++ map f (drop (i + 1) list) ≡ whole
made_turn f list i x y out more whole low is tree pushes h =
    ap (λ o. map Some o ++ map f (drop (i + 1) list)) pushes
    ∙ (push_made out y (map f (drop (i + 1) list))
    ∙ (ap (λ o. map Some out ++ (o ∷ map f (drop (i + 1) list))) (sym tree)
    ∙ (ap (λ xs. map Some out ++ map f xs) (sym (drop_turn list i x low is)) ∙ h)))

pub made_end : {A B : Type 0} (f : A → Option B) (list : List A) (i : ℕ) (out : List B) → length list ≤ i → map Some out ++ map f (drop i list) ≡ map f list
    → collected (map f list) ≡ Some out
made_end f list i out low h =
    ap collected (sym h ∙ (ap (λ xs. map Some out ++ map f xs) (drop_all i list low) ∙ append-nil (map Some out))) ∙ collected_made out
