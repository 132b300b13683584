-- Lines change nothing of where statements stand, of the parts of a for, and of what they declare.
use Rattle.std.proofs.Common.{◌≡◌, List, [], ◌∷◌, ◌++◌, map, Some, None, refl, sym, ap, ap₂, subst, ◌∙◌}
use Rattle.std.proofs.lemmas.List.{map-append}
use Rattle.c_tree.specs.Unlined.{unlined}
use Rattle.c_tree.specs.declared.statement.Arm.{Arm}
use Rattle.c_tree.specs.declared.statement.Statement.{Statement, out-Statement, map-Statement}
use Rattle.c_tree.specs.declared.statement.Statement.TheViews.{out-roll-Statement, roll-out-Statement}
use Rattle.c_tree.specs.declared.statement.Statement.TheOpen.{Statement-F}
use Rattle.c_tree.specs.Numbered.{arms_inner, layer_inner, inner, StandsIn}
use Rattle.c_tree.specs.Numbered.StandsIn.{here, inside, later}
use Rattle.c_tree.proofs.UnlinedLemmas.{unlined_of_arm, unlined_of_arm-roll}
use Rattle.c_tree.proofs.Unlining.{zeroed, unlined_roll}
use Rattle.c_language.proofs.Lists.{head_is, tail_is, no_list}
use Rattle.dep_model.proofs.Membership.{IsIn, in_of_contains, contains_of_in, in_map, of_map}
use Rattle.own_words.specs.OwnWords.{layer_parts, for_parts}
use Rattle.kept_texts.proofs.LoneParts.{lone_layer, is_lone, Whole}

abbrev bared : Statement-F Statement Arm → Statement-F Statement Arm
bared z = zeroed (map-Statement Statement Arm Statement Arm unlined unlined_of_arm z)

out_unlined : (x : Statement) → out-Statement (unlined x) ≡ bared (out-Statement x)
out_unlined x = ap out-Statement (ap unlined (sym (roll-out-Statement x)) ∙ unlined_roll (out-Statement x)) ∙ out-roll-Statement (bared (out-Statement x))

arms_bared : (as_ : List Arm) → arms_inner (map unlined_of_arm as_) ≡ map unlined (arms_inner as_)
arms_bared [] = refl
arms_bared (a ∷ as_) =
    ap₂ (λ (xs ys : List Statement). xs ++ ys) (ap (λ (b : Arm). b.body) (unlined_of_arm-roll a.labels a.body)) (arms_bared as_) ∙ sym (map-append unlined a.body (arms_inner as_))

inner_bared : (z : Statement-F Statement Arm) → layer_inner (bared z) ≡ map unlined (layer_inner z)
inner_bared (Statement-F.Declare id l x i) = refl
inner_bared (Statement-F.Assign id l a op b) = refl
inner_bared (Statement-F.Bump id l a up before) = refl
inner_bared (Statement-F.Invoke id l to f args) = refl
inner_bared (Statement-F.Fetch id l to) = refl
inner_bared (Statement-F.Write id l a) = refl
inner_bared (Statement-F.Print id l format args) = refl
inner_bared (Statement-F.Heap id l to cast n) = refl
inner_bared (Statement-F.Release id l a) = refl
inner_bared (Statement-F.If id l e a b) = sym (map-append unlined a b)
inner_bared (Statement-F.While id l e b) = refl
inner_bared (Statement-F.Do id l e b) = refl
inner_bared (Statement-F.For id l None e None b) = refl
inner_bared (Statement-F.For id l None e (Some k) b) = refl
inner_bared (Statement-F.For id l (Some i) e None b) = refl
inner_bared (Statement-F.For id l (Some i) e (Some k) b) = refl
inner_bared (Statement-F.Switch id l e as_) = arms_bared as_
inner_bared (Statement-F.Block l b) = refl
inner_bared (Statement-F.Return id l e) = refl

parts_bared : (z : Statement-F Statement Arm) → layer_parts (bared z) ≡ map unlined (layer_parts z)
parts_bared (Statement-F.Declare id l x i) = refl
parts_bared (Statement-F.Assign id l a op b) = refl
parts_bared (Statement-F.Bump id l a up before) = refl
parts_bared (Statement-F.Invoke id l to f args) = refl
parts_bared (Statement-F.Fetch id l to) = refl
parts_bared (Statement-F.Write id l a) = refl
parts_bared (Statement-F.Print id l format args) = refl
parts_bared (Statement-F.Heap id l to cast n) = refl
parts_bared (Statement-F.Release id l a) = refl
parts_bared (Statement-F.If id l e a b) = refl
parts_bared (Statement-F.While id l e b) = refl
parts_bared (Statement-F.Do id l e b) = refl
parts_bared (Statement-F.For id l None e None b) = refl
parts_bared (Statement-F.For id l None e (Some k) b) = refl
parts_bared (Statement-F.For id l (Some i) e None b) = refl
parts_bared (Statement-F.For id l (Some i) e (Some k) b) = refl
parts_bared (Statement-F.Switch id l e as_) = refl
parts_bared (Statement-F.Block l b) = refl
parts_bared (Statement-F.Return id l e) = refl

lone_bared : (z : Statement-F Statement Arm) → lone_layer (bared z) ≡ lone_layer z
lone_bared (Statement-F.Declare id l x i) = refl
lone_bared (Statement-F.Assign id l a op b) = refl
lone_bared (Statement-F.Bump id l a up before) = refl
lone_bared (Statement-F.Invoke id l to f args) = refl
lone_bared (Statement-F.Fetch id l to) = refl
lone_bared (Statement-F.Write id l a) = refl
lone_bared (Statement-F.Print id l format args) = refl
lone_bared (Statement-F.Heap id l to cast n) = refl
lone_bared (Statement-F.Release id l a) = refl
lone_bared (Statement-F.If id l e a b) = refl
lone_bared (Statement-F.While id l e b) = refl
lone_bared (Statement-F.Do id l e b) = refl
lone_bared (Statement-F.For id l i e k b) = refl
lone_bared (Statement-F.Switch id l e as_) = refl
lone_bared (Statement-F.Block l b) = refl
lone_bared (Statement-F.Return id l e) = refl

inner_unlined : (x : Statement) → inner (unlined x) ≡ map unlined (inner x)
inner_unlined x = ap layer_inner (out_unlined x) ∙ inner_bared (out-Statement x)

parts_unlined : (x : Statement) → for_parts (unlined x) ≡ map unlined (for_parts x)
parts_unlined x = ap layer_parts (out_unlined x) ∙ parts_bared (out-Statement x)

lone_unlined : (x : Statement) → is_lone (unlined x) ≡ is_lone x
lone_unlined x = ap lone_layer (out_unlined x) ∙ lone_bared (out-Statement x)

-- ---- statements that are the same but for lines

record Alike (ys : List Statement) (x : Statement) : Type 0 where
  one : Statement
  stands : StandsIn ys one
  same : unlined x ≡ unlined one

inner_alike : (x y : Statement) → unlined x ≡ unlined y → map unlined (inner x) ≡ map unlined (inner y)
inner_alike x y e = sym (inner_unlined x) ∙ ap inner e ∙ inner_unlined y

stands_alike : {xs : List Statement} {x : Statement} → StandsIn xs x → (ys : List Statement) → map unlined xs ≡ map unlined ys → Alike ys x
stands_alike (here {one} {rest}) [] e = no_list e
stands_alike (here {one} {rest}) (y ∷ ys) e = record { one = y; stands = here; same = head_is e }
stands_alike (inside {outer} {one} {rest} h) [] e = no_list e
stands_alike (inside {outer} {one} {rest} h) (y ∷ ys) e = let w = stands_alike h (inner y) (inner_alike outer y (head_is e)) in record { one = w.one; stands = inside w.stands; same = w.same }
stands_alike (later {first} {one} {rest} h) [] e = no_list e
stands_alike (later {first} {one} {rest} h) (y ∷ ys) e = let w = stands_alike h ys (tail_is e) in record { one = w.one; stands = later w.stands; same = w.same }

pub whole_alike : (xs ys : List Statement) → map unlined xs ≡ map unlined ys → Whole ys → Whole xs
whole_alike xs ys e whole x part h m =
    let w = stands_alike h ys e in
    let parts : map unlined (for_parts x) ≡ map unlined (for_parts w.one) = sym (parts_unlined x) ∙ ap for_parts w.same ∙ parts_unlined w.one in
    let there : IsIn (map unlined (for_parts w.one)) (unlined part) = subst (λ (zs : List Statement). IsIn zs (unlined part)) parts (in_map unlined (for_parts x) part (in_of_contains (for_parts x) part m)) in
    let q = of_map unlined (for_parts w.one) (unlined part) there in
    sym (lone_unlined part) ∙ ap is_lone (sym q.2) ∙ lone_unlined q.0 ∙ whole w.one q.0 w.stands (contains_of_in (for_parts w.one) q.0 q.1)
