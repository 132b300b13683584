-- What is read again nests no deeper: the layout keeps the nesting of a text, but for lengths of parameters, which it drops.
use Rattle.std.proofs.Common.{◌≡◌, ℕ, ◌+◌, ◌≤◌, max, List, [], ◌∷◌, map, true, Option, Some, None, refl, sym, ap, ap₂, ◌∙◌, arith, decimal}
use Rattle.std.specs.Prelude.{nat_lt, is_none}
use Rattle.std.proofs.lemmas.Bool.{and_parts}
use Rattle.c_tree.specs.declared.raw.expr.RawExpr.{RawExpr, fold-roll-RawExpr}
use Rattle.c_tree.specs.declared.raw.expr.RawExpr.TheOpen.{RawExpr-F}
use Rattle.c_tree.specs.declared.raw.expr.RawExpr.TheVariants as e
use Rattle.c_tree.specs.declared.raw.expr.RawLength.{RawLength}
use Rattle.c_tree.specs.declared.raw.expr.RawLength.TheVariants.{Written, Listed}
use Rattle.c_tree.specs.declared.raw.expr.RawType.{RawType, map-RawType, fold-roll-RawType}
use Rattle.c_tree.specs.declared.raw.expr.RawType.TheOpen.{RawType-F}
use Rattle.c_tree.specs.declared.raw.expr.RawType.TheVariants as type
use Rattle.c_tree.specs.declared.raw.program.RawItem.{RawItem}
use Rattle.c_tree.specs.declared.raw.program.RawItem.TheVariants.{Include, Tag, Struct, Global, Prototype, Define}
use Rattle.c_tree.specs.declared.raw.program.RawMember.{RawMember}
use Rattle.c_tree.specs.declared.raw.program.RawParam.{RawParam}
use Rattle.c_tree.specs.declared.raw.program.RawProgram.{RawProgram}
use Rattle.c_tree.specs.declared.raw.statement.RawArm.{RawArm, map-RawArm, fold-roll-RawArm}
use Rattle.c_tree.specs.declared.raw.statement.RawStatement.{RawStatement, map-RawStatement, fold-roll-RawStatement}
use Rattle.c_tree.specs.declared.raw.statement.RawStatement.TheOpen.{RawStatement-F}
use Rattle.c_tree.proofs.RawTrees.{TypeParts, type_layer, of_every_type, StatementParts, statement_layer, arm_layer, of_every_statement}
use Rattle.c_language.specs.DeclaredTypes.{item_count}
use Rattle.c_language.specs.Nesting.{nesting_step, nesting, length_nesting, type_nesting_step, type_nesting, length_above, params_nesting}
use Rattle.c_language.specs.StatementNesting.{init_nesting, label_nesting, statement_step, arm_step, statement_nesting, body_nesting, member_nesting, result_nesting, item_nesting, items_nesting, program_nesting}
use Rattle.c_text_layout.specs.Settled.{settled_length, settled_type_step, settled_type, settled, settled_member, settled_param, settled_item, SameInLayout, lack_lengths, item_lacks_lengths, items_lack_lengths}
use Rattle.c_text_layout.proofs.RawStatementLemmas.{settled_arm}
use Rattle.c_print_laws.proofs.PhraseAgreement.{kept_layer, settled_layer, settled_arm_layer}
use Rattle.c_language.proofs.StatementNestingLemmas.{arm_nesting}
use Rattle.c_language.proofs.Tests.{false_true, by_answer}
use Rattle.c_language.specs.Lists.{greatest}

-- ---- types

nesting-Constant : (text : _) → nesting (e.Constant text) ≡ 0
nesting-Constant text = ap nesting (sym (e.rolls-Constant text)) ∙ fold-roll-RawExpr ℕ nesting_step (RawExpr-F.Constant text)

module _ (items : ℕ) where
  length_nests : (n : RawLength) → length_nesting (settled_length items n) ≡ length_nesting n
  length_nests (Written a) = refl
  length_nests Listed = by_answer (nat_lt items 4294967296) (λ few. rw few (nesting-Constant (decimal items))) (λ many. rw many refl)

  abbrev TypeNests : RawType → Type 0
  TypeNests a = type_nesting (settled_type items a) ≡ type_nesting a

  type_layer_nests : (y : TypeParts TypeNests)
      → type_nesting (settled_type_step items (map-RawType RawType RawType (settled_type items) (type_layer TypeNests y))) ≡ type_nesting_step (map-RawType RawType ℕ type_nesting (type_layer TypeNests y))
  type_layer_nests (RawType-F.Integer i) = ap type_nesting (sym (type.rolls-Integer i)) ∙ fold-roll-RawType ℕ type_nesting_step (RawType-F.Integer i)
  type_layer_nests (RawType-F.PointerTo a) =
      ap type_nesting (sym (type.rolls-PointerTo (settled_type items a.0))) ∙ fold-roll-RawType ℕ type_nesting_step (RawType-F.PointerTo (settled_type items a.0)) ∙ ap (λ (n : ℕ). 1 + n) a.1
  type_layer_nests (RawType-F.Array a n) =
      ap type_nesting (sym (type.rolls-Array (settled_type items a.0) (settled_length items n))) ∙ fold-roll-RawType ℕ type_nesting_step (RawType-F.Array (settled_type items a.0) (settled_length items n))
      ∙ ap₂ (λ (m k : ℕ). 1 + max m k) (length_nests n) a.1
  type_layer_nests (RawType-F.Struct w) = ap type_nesting (sym (type.rolls-Struct w)) ∙ fold-roll-RawType ℕ type_nesting_step (RawType-F.Struct w)

  type_nests : (a : RawType) → TypeNests a
  type_nests = of_every_type TypeNests (λ y.
      let l = type_layer TypeNests y in
      ap type_nesting (fold-roll-RawType RawType (settled_type_step items) l) ∙ type_layer_nests y ∙ sym (fold-roll-RawType ℕ type_nesting_step l))

-- ---- statements

abbrev Nests : RawStatement → Type 0
Nests x = statement_nesting (settled x) ≡ statement_nesting x

abbrev ArmNests : RawArm → Type 0
ArmNests x = arm_nesting (settled_arm x) ≡ arm_nesting x

abbrev bare : List ((x : RawStatement) × Nests x) → List RawStatement
bare = map (λ (x : (y : RawStatement) × Nests y). x.0)

abbrev bare_arms : List ((x : RawArm) × ArmNests x) → List RawArm
bare_arms = map (λ (x : (y : RawArm) × ArmNests y). x.0)

lists_nest : (xs : List ((x : RawStatement) × Nests x)) → greatest (map statement_nesting (map settled (bare xs))) ≡ greatest (map statement_nesting (bare xs))
lists_nest [] = refl
lists_nest (x ∷ xs) = ap₂ max x.1 (lists_nest xs)

arms_nest : (xs : List ((x : RawArm) × ArmNests x)) → greatest (map arm_nesting (map settled_arm (bare_arms xs))) ≡ greatest (map arm_nesting (bare_arms xs))
arms_nest [] = refl
arms_nest (x ∷ xs) = ap₂ max x.1 (arms_nest xs)

abbrev step_nesting : RawStatement-F RawStatement RawArm → ℕ
step_nesting y = statement_step (map-RawStatement RawStatement RawArm ℕ ℕ statement_nesting arm_nesting y)

layer_nests : (y : StatementParts Nests ArmNests) → step_nesting (kept_layer (statement_layer Nests ArmNests y)) ≡ step_nesting (statement_layer Nests ArmNests y)
layer_nests (RawStatement-F.Declare l v i) = ap (λ (n : ℕ). max n (init_nesting i)) (type_nests (item_count i) v.shape)
layer_nests (RawStatement-F.Assign l a op b) = refl
layer_nests (RawStatement-F.Bump l a up before) = refl
layer_nests (RawStatement-F.Call l to f args) = refl
layer_nests (RawStatement-F.Heap l to cast n) = refl
layer_nests (RawStatement-F.If l a b c) = ap₂ (λ (m k : ℕ). 1 + max (nesting a) (max m k)) (lists_nest b) (lists_nest c)
layer_nests (RawStatement-F.While l a b) = ap (λ (n : ℕ). 1 + max (nesting a) n) (lists_nest b)
layer_nests (RawStatement-F.Do l a b) = ap (λ (n : ℕ). 1 + max n (nesting a)) (lists_nest b)
layer_nests (RawStatement-F.For l None a None b) = ap (λ (n : ℕ). 1 + max 0 (max (nesting a) (max 0 n))) (lists_nest b)
layer_nests (RawStatement-F.For l None a (Some x) b) = ap₂ (λ (m n : ℕ). 1 + max 0 (max (nesting a) (max m n))) x.1 (lists_nest b)
layer_nests (RawStatement-F.For l (Some i) a None b) = ap₂ (λ (m n : ℕ). 1 + max m (max (nesting a) (max 0 n))) i.1 (lists_nest b)
layer_nests (RawStatement-F.For l (Some i) a (Some x) b) = ap₂ (λ (m n : ℕ). 1 + max m (max (nesting a) n)) i.1 (ap₂ max x.1 (lists_nest b))
layer_nests (RawStatement-F.Switch l a arms) = ap (λ (n : ℕ). 1 + max (nesting a) n) (arms_nest arms)
layer_nests (RawStatement-F.Block l b) = ap (λ (n : ℕ). 1 + n) (lists_nest b)
layer_nests (RawStatement-F.Return l a) = refl

statement_nests : (x : RawStatement) → Nests x
statement_nests = of_every_statement Nests ArmNests
    (λ y. let l = statement_layer Nests ArmNests y in
    ap statement_nesting (settled_layer l) ∙ fold-roll-RawStatement ℕ ℕ statement_step arm_step (kept_layer l) ∙ layer_nests y ∙ sym (fold-roll-RawStatement ℕ ℕ statement_step arm_step l))
    (λ y. let l = arm_layer Nests ArmNests y in
    ap arm_nesting (settled_arm_layer l) ∙ fold-roll-RawArm ℕ ℕ statement_step arm_step (map-RawArm RawStatement RawArm RawStatement RawArm settled settled_arm l)
    ∙ ap (λ (n : ℕ). max (greatest (map label_nesting y.labels)) n) (lists_nest y.body) ∙ sym (fold-roll-RawArm ℕ ℕ statement_step arm_step l))

body_nests : (xs : List RawStatement) → body_nesting (map settled xs) ≡ body_nesting xs
body_nests [] = refl
body_nests (x ∷ xs) = ap₂ max (statement_nests x) (body_nests xs)

-- ---- items

members_nest : (ms : List RawMember) → greatest (map member_nesting (map settled_member ms)) ≡ greatest (map member_nesting ms)
members_nest [] = refl
members_nest (m ∷ ms) = ap (max (type_nesting m.shape)) (members_nest ms)

params_nest : (ps : List RawParam) → params_nesting (map settled_param ps) ≤ params_nesting ps
params_nest [] = omega arith
params_nest (p ∷ ps) = omega (arith, params_nest ps)

without_length : (l : Option RawExpr) → is_none l ≡ true → length_above l ≡ 0
without_length None h = refl
without_length (Some a) h = false_true h

params_same : (ps : List RawParam) → lack_lengths ps ≡ true → params_nesting (map settled_param ps) ≡ params_nesting ps
params_same [] h = refl
params_same (p ∷ ps) h =
    let k = and_parts (is_none p.length) (lack_lengths ps) h in
    ap₂ max (ap (λ (n : ℕ). max n (type_nesting p.shape)) (sym (without_length p.length k.0))) (params_same ps k.1)

item_nests : (x : RawItem) → item_nesting (settled_item x) ≤ item_nesting x
item_nests (Include b) = omega arith
item_nests (Tag l w) = omega arith
item_nests (Struct l w members) = omega (arith, members_nest members)
item_nests (Global l v i b) = omega (arith, type_nests (item_count i) v.shape)
item_nests (Prototype l h) = omega (arith, params_nest h.params)
item_nests (Define l h body) = omega (arith, params_nest h.params, body_nests body)

item_same : (x : RawItem) → item_lacks_lengths x ≡ true → item_nesting (settled_item x) ≡ item_nesting x
item_same (Include b) h = refl
item_same (Tag l w) h = refl
item_same (Struct l w members) h = members_nest members
item_same (Global l v i b) h = ap (λ (n : ℕ). max n (init_nesting i)) (type_nests (item_count i) v.shape)
item_same (Prototype l hd) h = ap (max (result_nesting hd.result)) (params_same hd.params h)
item_same (Define l hd body) h = ap₂ max (ap (max (result_nesting hd.result)) (params_same hd.params h)) (body_nests body)

items_nest : (xs : List RawItem) → items_nesting (map settled_item xs) ≤ items_nesting xs
items_nest [] = omega arith
items_nest (x ∷ xs) = omega (arith, item_nests x, items_nest xs)

items_same : (xs : List RawItem) → items_lack_lengths xs ≡ true → items_nesting (map settled_item xs) ≡ items_nesting xs
items_same [] h = refl
items_same (x ∷ xs) h = let k = and_parts (item_lacks_lengths x) (items_lack_lengths xs) h in ap₂ max (item_same x k.0) (items_same xs k.1)

-- a tree whose parameters have no lengths nests no deeper than one that is the same in all that the layout keeps
pub nesting_kept : (raw found : RawProgram) → SameInLayout found raw → items_lack_lengths found.items ≡ true → program_nesting found ≤ program_nesting raw
nesting_kept raw found same bare =
    let a = items_same found.items bare in
    let b = ap items_nesting same in
    let c = items_nest raw.items in
    omega (arith, a, b, c)
