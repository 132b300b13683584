-- What starts in a statement has the numbers of what the statement does, in the same order.
use Rattle.std.proofs.Common.{◌≡◌, ℕ, List, [], ◌∷◌, ◌++◌, map, Some, None, refl, sym, ap, ap₂, ◌∙◌, subst}
use Rattle.std.proofs.lemmas.List.{map-append}
use Rattle.c_tree.specs.declared.statement.Statement.{Statement, ind-Statement, roll-Statement, map-Statement, fold-roll-Statement}
use Rattle.c_tree.specs.declared.statement.Statement.TheOpen.{Statement-F, Arm-F}
use Rattle.c_tree.specs.declared.statement.Arm.{Arm, roll-Arm, map-Arm, fold-roll-Arm}
use Rattle.c_tree.specs.declared.numbered.Start.{Start}
use Rattle.c_tree.specs.Numbered.{Starts, all, starts_step, arm_starts, starts, body_starts}
use Rattle.c_tree.proofs.NumberedLemmas.{starts_of_arm}
use Rattle.dep_model.specs.Doings.{Doing, joined, doing_step, doing_arm, doings, body_doings, doing_number}
use Rattle.dep_model.proofs.DoingForms.{arm_doings}

abbrev pub ids : Starts → List ℕ
ids = map (λ (s : Start). s.id)

abbrev pub numbers : List Doing → List ℕ
numbers = map doing_number

-- ---- what starts and doings of a part agree on

abbrev pub Agree : Starts → List Doing → Type 0
Agree ss ds = ids ss ≡ numbers ds

abbrev AllAgree : List Starts → List (List Doing) → Type 0
AllAgree [] [] = Unit {0}
AllAgree [] (d ∷ ds) = ⊥
AllAgree (s ∷ ss) [] = ⊥
AllAgree (s ∷ ss) (d ∷ ds) = Agree s d × AllAgree ss ds

append_agree : (a b : Starts) (c d : List Doing) → Agree a c → Agree b d → Agree (a ++ b) (c ++ d)
append_agree a b c d h k =
    map-append (λ (s : Start). s.id) a b ∙ ap₂ (λ (x y : List ℕ). x ++ y) h k ∙ sym (map-append doing_number c d)

all_agree : (ss : List Starts) (ds : List (List Doing)) → AllAgree ss ds → Agree (all ss) (joined ds)
all_agree [] [] h = refl
all_agree [] (d ∷ ds) h = absurd h
all_agree (s ∷ ss) [] h = absurd h
all_agree (s ∷ ss) (d ∷ ds) h = append_agree s (all ss) d (joined ds) h.0 (all_agree ss ds h.1)

-- ---- by layers

abbrev Of : Statement → Type 0
Of x = Agree (starts x) (doings x)

abbrev OfArm : Arm → Type 0
OfArm a = Agree (starts_of_arm a) (arm_doings a)

abbrev Parts : Type 0
Parts = Statement-F ((x : Statement) × Of x) ((a : Arm) × OfArm a)

abbrev ArmParts : Type 0
ArmParts = Arm-F ((x : Statement) × Of x) ((a : Arm) × OfArm a)

abbrev layer : Parts → Statement-F Statement Arm
layer = map-Statement ((x : Statement) × Of x) ((a : Arm) × OfArm a) Statement Arm (λ x. x.0) (λ a. a.0)

abbrev arm_layer : ArmParts → Arm-F Statement Arm
arm_layer = map-Arm ((x : Statement) × Of x) ((a : Arm) × OfArm a) Statement Arm (λ x. x.0) (λ a. a.0)

abbrev fsts : List ((x : Statement) × Of x) → List Statement
fsts = map (λ (y : (x : Statement) × Of x). y.0)

abbrev arm_fsts : List ((a : Arm) × OfArm a) → List Arm
arm_fsts = map (λ (y : (a : Arm) × OfArm a). y.0)

are_all : (b : List ((x : Statement) × Of x)) → AllAgree (map starts (fsts b)) (map doings (fsts b))
are_all [] = tt
are_all (x ∷ b) = (x.1, are_all b)

are_arms : (b : List ((a : Arm) × OfArm a)) → AllAgree (map starts_of_arm (arm_fsts b)) (map arm_doings (arm_fsts b))
are_arms [] = tt
are_arms (x ∷ b) = (x.1, are_arms b)

list_agree : (b : List ((x : Statement) × Of x)) → Agree (all (map starts (fsts b))) (joined (map doings (fsts b)))
list_agree b = all_agree (map starts (fsts b)) (map doings (fsts b)) (are_all b)

arms_agree : (b : List ((a : Arm) × OfArm a)) → Agree (all (map starts_of_arm (arm_fsts b))) (joined (map arm_doings (arm_fsts b)))
arms_agree b = all_agree (map starts_of_arm (arm_fsts b)) (map arm_doings (arm_fsts b)) (are_arms b)

abbrev starts_of_layer : Statement-F Statement Arm → Starts
starts_of_layer y = starts_step (map-Statement Statement Arm Starts Starts starts starts_of_arm y)

abbrev doings_of_layer : Statement-F Statement Arm → List Doing
doings_of_layer y = doing_step (map-Statement Statement Arm (List Doing) (List Doing) doings arm_doings y)

-- a test before what it decides
behind_test : (id : ℕ) (ss : Starts) (ds : List Doing) → Agree ss ds → id ∷ ids ss ≡ id ∷ numbers ds
behind_test id ss ds h = ap (λ (ns : List ℕ). id ∷ ns) h

for_agree : (id : ℕ) (i j : Starts) (f g : List Doing) (b : List ((x : Statement) × Of x)) → Agree i f → Agree j g → id ∷ ids (i ++ (j ++ all (map starts (fsts b)))) ≡ id ∷ numbers (f ++ (g ++ joined (map doings (fsts b))))
for_agree id i j f g b h k =
    let bs = all (map starts (fsts b)) in
    let ds = joined (map doings (fsts b)) in
    behind_test id (i ++ (j ++ bs)) (f ++ (g ++ ds)) (append_agree i (j ++ bs) f (g ++ ds) h (append_agree j bs g ds k (list_agree b)))

of_layer : (y : Parts) → Agree (starts_of_layer (layer y)) (doings_of_layer (layer y))
of_layer (Statement-F.Declare None l v i) = refl
of_layer (Statement-F.Declare (Some id) l v i) = refl
of_layer (Statement-F.Assign id l a op b) = refl
of_layer (Statement-F.Bump id l a up before) = refl
of_layer (Statement-F.Invoke id l to f args) = refl
of_layer (Statement-F.Fetch id l to) = refl
of_layer (Statement-F.Write id l a) = refl
of_layer (Statement-F.Print id l format args) = refl
of_layer (Statement-F.Heap id l to cast n) = refl
of_layer (Statement-F.Release id l a) = refl
of_layer (Statement-F.If id l e a b) = behind_test id (all (map starts (fsts a)) ++ all (map starts (fsts b))) (joined (map doings (fsts a)) ++ joined (map doings (fsts b))) (append_agree (all (map starts (fsts a))) (all (map starts (fsts b))) (joined (map doings (fsts a))) (joined (map doings (fsts b))) (list_agree a) (list_agree b))
of_layer (Statement-F.While id l e b) = behind_test id (all (map starts (fsts b))) (joined (map doings (fsts b))) (list_agree b)
of_layer (Statement-F.Do id l e b) = behind_test id (all (map starts (fsts b))) (joined (map doings (fsts b))) (list_agree b)
of_layer (Statement-F.For id l None e None b) = for_agree id [] [] [] [] b refl refl
of_layer (Statement-F.For id l (Some i) e None b) = for_agree id (starts i.0) [] (doings i.0) [] b i.1 refl
of_layer (Statement-F.For id l None e (Some s) b) = for_agree id [] (starts s.0) [] (doings s.0) b refl s.1
of_layer (Statement-F.For id l (Some i) e (Some s) b) = for_agree id (starts i.0) (starts s.0) (doings i.0) (doings s.0) b i.1 s.1
of_layer (Statement-F.Switch id l e arms) = behind_test id (all (map starts_of_arm (arm_fsts arms))) (joined (map arm_doings (arm_fsts arms))) (arms_agree arms)
of_layer (Statement-F.Block l b) = list_agree b
of_layer (Statement-F.Return id l a) = refl

rolled : (y : Statement-F Statement Arm) → Agree (starts_of_layer y) (doings_of_layer y) → Of (roll-Statement y)
rolled y h =
    ap ids (fold-roll-Statement Starts Starts starts_step arm_starts y) ∙ h ∙ sym (ap numbers (fold-roll-Statement (List Doing) (List Doing) doing_step doing_arm y))

rolled_arm : (y : ArmParts) → OfArm (roll-Arm (arm_layer y))
rolled_arm y =
    ap ids (fold-roll-Arm Starts Starts starts_step arm_starts (arm_layer y)) ∙ list_agree y.body ∙ sym (ap numbers (fold-roll-Arm (List Doing) (List Doing) doing_step doing_arm (arm_layer y)))

of_statement : (x : Statement) → Of x
of_statement =
    ind-Statement Of OfArm (λ x y is. subst (λ z. Of (roll-Statement z)) is (rolled (layer y) (of_layer y))) (λ x y is. subst (λ z. OfArm (roll-Arm z)) is (rolled_arm y))

-- the numbers of what starts in a body are those of what it does
pub body_agree : (xs : List Statement) → Agree (body_starts xs) (body_doings xs)
body_agree [] = refl
body_agree (x ∷ xs) = append_agree (starts x) (body_starts xs) (doings x) (body_doings xs) (of_statement x) (body_agree xs)
