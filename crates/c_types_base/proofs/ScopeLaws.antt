-- A statement keeps the names that stand before it, and a block takes away those that it declares.
use Rattle.std.proofs.Common.{◌≡◌, List, [], ◌∷◌, ◌++◌, length, take, map, Some, None, refl, sym, ap, subst, ◌∙◌}
use Rattle.std.proofs.lemmas.List.{append-nil, append_assoc}
use Rattle.c_tree.specs.declared.raw.expr.RawVar.{RawVar}
use Rattle.c_tree.specs.declared.raw.program.RawInit.{RawInit}
use Rattle.c_tree.specs.declared.raw.program.RawInit.TheVariants as init
use Rattle.c_tree.specs.declared.raw.program.RawProgram.{RawProgram}
use Rattle.c_tree.specs.declared.raw.statement.RawTarget.{RawTarget}
use Rattle.c_tree.specs.declared.raw.statement.RawTarget.TheVariants as target
use Rattle.c_tree.specs.declared.raw.statement.RawStatement.{RawStatement, ind-RawStatement, roll-RawStatement, map-RawStatement, fold-roll-RawStatement}
use Rattle.c_tree.specs.declared.raw.statement.RawStatement.TheOpen.{RawStatement-F, RawArm-F}
use Rattle.c_tree.specs.declared.raw.statement.RawArm.{RawArm, roll-RawArm, fold-roll-RawArm}
use Rattle.c_tree.proofs.RawTrees.{statement_layer, StatementParts}
use Rattle.c_language.specs.Scopes.{Scope, Entry, Scoped, with_variable, with_target, begun, numbered, opened, closed, after_all, after_block, after_step}
use Rattle.c_language.proofs.ScopesAfter.{said_step, said_arm_step, said, said_arm}

-- the names of the first scope stand at the front of those of the second, and the rest is the same but for numbers
pub record Extends (x y : Scope) : Type 0 where
  pub more : List Entry
  pub names : y.names ≡ x.names ++ more
  pub outer : y.outer ≡ x.outer
  pub owner : y.owner ≡ x.owner
  pub structs : y.structs ≡ x.structs
  pub functions : y.functions ≡ x.functions

-- the same names
pub as_before : (x y : Scope) → y.names ≡ x.names → y.outer ≡ x.outer → y.owner ≡ x.owner → y.structs ≡ x.structs → y.functions ≡ x.functions → Extends x y
as_before x y names outer owner structs functions =
    record { more = []; names = names ∙ sym (append-nil x.names); outer = outer; owner = owner; structs = structs; functions = functions }

pub stays : (x : Scope) → Extends x x
stays x = as_before x x refl refl refl refl refl

pub then_extends : (x y z : Scope) → Extends x y → Extends y z → Extends x z
then_extends x y z e f = record {
  more = e.more ++ f.more;
  names = f.names ∙ ap (λ ns. ns ++ f.more) e.names ∙ append_assoc x.names e.more f.more;
  outer = f.outer ∙ e.outer;
  owner = f.owner ∙ e.owner;
  structs = f.structs ∙ e.structs;
  functions = f.functions ∙ e.functions;
}

-- what stood before is the front of the names
pub front : (x y : Scope) → Extends x y → take (length x.names) y.names ≡ x.names
front x y e = ap (take (length x.names)) e.names ∙ take_front x.names e.more
  where
    take_front : (xs ys : List Entry) → take (length xs) (xs ++ ys) ≡ xs
    take_front [] ys = refl
    take_front (a ∷ xs) ys = ap (λ r. a ∷ r) (take_front xs ys)

module _ (raw : RawProgram) where
  pub variable_extends : (v : RawVar) (i : RawInit) (x : Scope) → Extends x (with_variable raw v i x)
  variable_extends v i x = record { more = _; names = refl; outer = refl; owner = refl; structs = refl; functions = refl }

  pub number_extends : (x : Scope) → Extends x (numbered x)
  number_extends x = as_before x (numbered x) refl refl refl refl refl

  begun_extends : (i : RawInit) (x : Scope) → Extends x (begun i x)
  begun_extends init.None x = stays x
  begun_extends (init.One e) x = number_extends x
  begun_extends (init.Items es) x = number_extends x

  pub target_extends : (to : RawTarget) (x : Scope) → Extends x (with_target raw to x)
  target_extends target.None x = stays x
  target_extends (target.Place e) x = stays x
  target_extends (target.Declared v) x = variable_extends v init.None x

  -- a block that is opened and closed
  pub block_extends : (x y : Scope) → Extends (opened x) y → Extends x (closed x y)
  block_extends x y e = as_before x (closed x y) refl refl refl e.structs e.functions

module _ {R Q : Type 0} (raw : RawProgram) (gives : RawStatement-F (Scoped R) (Scoped Q) → Scope → R) (arm_gives : RawArm-F (Scoped R) (Scoped Q) → Scope → Q) where
  abbrev of_statement : RawStatement → Scoped R
  of_statement = said raw R Q gives arm_gives

  abbrev of_arm : RawArm → Scoped Q
  of_arm = said_arm raw R Q gives arm_gives

  abbrev pub Grows : RawStatement → Type 0
  Grows one = (x : Scope) → Extends x ((of_statement one).after x)

  abbrev pub ArmGrows : RawArm → Type 0
  ArmGrows a = (x : Scope) → Extends x ((of_arm a).after x)

  abbrev Parts : Type 0
  Parts = List ((one : RawStatement) × Grows one)

  abbrev raw_of : Parts → List RawStatement
  raw_of = map (λ p. p.0)

  list_extends : (ps : Parts) (x : Scope) → Extends x (after_all (map of_statement (raw_of ps)) x)
  list_extends [] x = stays x
  list_extends (p ∷ ps) x =
      then_extends x ((of_statement p.0).after x) (after_all (map of_statement (raw_of ps)) ((of_statement p.0).after x)) (p.1 x) (list_extends ps ((of_statement p.0).after x))

  abbrev inside : Parts → Scope → Scope
  inside ps x = after_block (map of_statement (raw_of ps)) x

  inside_extends : (ps : Parts) (x : Scope) → Extends x (inside ps x)
  inside_extends ps x = block_extends raw x (after_all (map of_statement (raw_of ps)) (opened x)) (list_extends ps (opened x))

  numbered_inside : (ps : Parts) (x : Scope) → Extends x (inside ps (numbered x))
  numbered_inside ps x = then_extends x (numbered x) (inside ps (numbered x)) (number_extends raw x) (inside_extends ps (numbered x))

  abbrev ArmParts : Type 0
  ArmParts = List ((a : RawArm) × ArmGrows a)

  arms_extend : (ps : ArmParts) (x : Scope) → Extends x (after_all (map of_arm (map (λ p. p.0) ps)) x)
  arms_extend [] x = stays x
  arms_extend (p ∷ ps) x =
      then_extends x ((of_arm p.0).after x) (after_all (map of_arm (map (λ q. q.0) ps)) ((of_arm p.0).after x)) (p.1 x) (arms_extend ps ((of_arm p.0).after x))

  -- a for is a block of its own
  for_extends : (x y z : Scope) (ps : Parts) → Extends (opened (numbered x)) y → Extends y z → Extends x (closed x (inside ps z))
  for_extends x y z ps e f =
      let all = then_extends (opened (numbered x)) z (inside ps z) (then_extends (opened (numbered x)) y z e f) (inside_extends ps z) in
      as_before x (closed x (inside ps z)) refl refl refl all.structs all.functions

  abbrev layer_of : StatementParts Grows ArmGrows → RawStatement-F RawStatement RawArm
  layer_of = statement_layer Grows ArmGrows

  layer_grows : (y : StatementParts Grows ArmGrows) (x : Scope)
      → Extends x (after_step raw (map-RawStatement RawStatement RawArm (Scoped R) (Scoped Q) of_statement of_arm (layer_of y)) x)
  layer_grows (RawStatement-F.Declare l v i) x = then_extends x (with_variable raw v i x) (begun i (with_variable raw v i x)) (variable_extends raw v i x) (begun_extends raw i (with_variable raw v i x))
  layer_grows (RawStatement-F.Assign l a op b) x = number_extends raw x
  layer_grows (RawStatement-F.Bump l a up before) x = number_extends raw x
  layer_grows (RawStatement-F.Call l to f args) x = then_extends x (with_target raw to x) (numbered (with_target raw to x)) (target_extends raw to x) (number_extends raw (with_target raw to x))
  layer_grows (RawStatement-F.Heap l to cast n) x = then_extends x (with_target raw to x) (numbered (with_target raw to x)) (target_extends raw to x) (number_extends raw (with_target raw to x))
  layer_grows (RawStatement-F.If l e a b) x = then_extends x (inside a (numbered x)) (inside b (inside a (numbered x))) (numbered_inside a x) (inside_extends b (inside a (numbered x)))
  layer_grows (RawStatement-F.While l e b) x = numbered_inside b x
  layer_grows (RawStatement-F.Do l e b) x = numbered_inside b x
  layer_grows (RawStatement-F.For l None e None b) x = for_extends x (opened (numbered x)) (opened (numbered x)) b (stays (opened (numbered x))) (stays (opened (numbered x)))
  layer_grows (RawStatement-F.For l (Some i) e None b) x =
      for_extends x ((of_statement i.0).after (opened (numbered x))) ((of_statement i.0).after (opened (numbered x))) b (i.1 (opened (numbered x))) (stays ((of_statement i.0).after (opened (numbered x))))
  layer_grows (RawStatement-F.For l None e (Some s) b) x =
      for_extends x (opened (numbered x)) ((of_statement s.0).after (opened (numbered x))) b (stays (opened (numbered x))) (s.1 (opened (numbered x)))
  layer_grows (RawStatement-F.For l (Some i) e (Some s) b) x =
      for_extends x ((of_statement i.0).after (opened (numbered x))) ((of_statement s.0).after ((of_statement i.0).after (opened (numbered x)))) b
      (i.1 (opened (numbered x))) (s.1 ((of_statement i.0).after (opened (numbered x))))
  layer_grows (RawStatement-F.Switch l e arms) x =
      let rest = arms_extend arms (opened (numbered x)) in
      then_extends x (numbered x) (closed (numbered x) (after_all (map of_arm (map (λ p. p.0) arms)) (opened (numbered x)))) (number_extends raw x) (block_extends raw (numbered x) _ rest)
  layer_grows (RawStatement-F.Block l b) x = inside_extends b x
  layer_grows (RawStatement-F.Return l e) x = number_extends raw x

  -- the names before a statement stand after it
  pub statement_grows : (one : RawStatement) → Grows one
  statement_grows =
      ind-RawStatement Grows ArmGrows
      (λ z y is. subst (λ w. Grows (roll-RawStatement w)) is (λ x. subst (λ (s : Scoped R). Extends x (s.after x)) (sym (fold-roll-RawStatement (Scoped R) (Scoped Q) (said_step raw R Q gives arm_gives) (said_arm_step raw R Q gives arm_gives) (layer_of y))) (layer_grows y x)))
      (λ z y is. subst (λ w. ArmGrows (roll-RawArm w)) is (λ x. subst (λ (s : Scoped Q). Extends x (s.after x)) (sym (fold-roll-RawArm (Scoped R) (Scoped Q) (said_step raw R Q gives arm_gives) (said_arm_step raw R Q gives arm_gives) _)) (list_extends y.body x)))
