-- The types in the heads of functions of a tree that is syntax are plain, and the parameters of a definition have names.
use Rattle.std.proofs.Common.{◌≡◌, List, [], ◌∷◌, true, not, ◌&&◌, Option, Some, None, refl}
use Rattle.std.specs.List.{list_all}
use Rattle.std.specs.Option.{option_map_or}
use Rattle.std.proofs.lemmas.Bool.{and_parts}
use Rattle.c_tree.specs.declared.raw.expr.RawType.{RawType}
use Rattle.c_tree.specs.declared.raw.program.RawParam.{RawParam}
use Rattle.c_tree.specs.declared.raw.program.RawHead.{RawHead}
use Rattle.c_tree.specs.declared.raw.program.RawItem.{RawItem}
use Rattle.c_tree.specs.declared.raw.program.RawItem.TheVariants.{Include, Tag, Struct, Global, Prototype, Define}
use Rattle.c_tree.specs.declared.raw.program.RawProgram.{RawProgram}
use Rattle.c_language.specs.ItemGrammar.{are_named}
use Rattle.c_language.specs.Spellings.{is_own_name}
use Rattle.c_language.specs.Syntax.{starred, reaches, is_struct, is_body, is_param, is_result, is_head, is_item, is_syntax}
use Rattle.text_syntax.proofs.Types.{plain_type}
use Rattle.c_print_laws.proofs.Definitions.{ParamsPlain, ResultPlain, HeadPlain, ItemFormed, HeadsPlain}

params_plain : (qs : List RawParam) → list_all is_param qs ≡ true → ParamsPlain qs
params_plain [] h = tt
params_plain (q ∷ qs) h =
    let p = and_parts (is_param q) (list_all is_param qs) h in
    let r = and_parts (option_map_or is_own_name q.name true) _ (and_parts (option_map_or is_own_name q.name true && (reaches q.shape starred && not (is_struct q.shape))) _ p.0).0 in
    (plain_type q.shape starred refl (and_parts (reaches q.shape starred) _ r.1).0, params_plain qs p.1)

result_plain : (t : Option RawType) → option_map_or is_result t true ≡ true → ResultPlain t
result_plain None h = tt
result_plain (Some t) h = plain_type t starred refl (and_parts (reaches t starred) _ h).0

head_plain : (h : RawHead) → is_head h ≡ true → HeadPlain h
head_plain h k =
    let p = and_parts (option_map_or is_result h.result true) (list_all is_param h.params) (and_parts (is_own_name h.name) _ k).1 in
    record { result = result_plain h.result p.0; params = params_plain h.params p.1 }

item_formed : (x : RawItem) → is_item x ≡ true → ItemFormed x
item_formed (Include is_stdlib) h = tt
item_formed (Tag l w) h = tt
item_formed (Struct l w members) h = tt
item_formed (Global l v i is_static) h = tt
item_formed (Prototype l head) h = head_plain head h
item_formed (Define l head body) h = let p = and_parts (is_head head) _ h in (head_plain head p.0, (and_parts (are_named head.params) (is_body body) p.1).0)

items_formed : (xs : List RawItem) → list_all is_item xs ≡ true → HeadsPlain xs
items_formed [] h = tt
items_formed (x ∷ xs) h = let p = and_parts (is_item x) (list_all is_item xs) h in (item_formed x p.0, items_formed xs p.1)

-- The heads of a tree that is syntax.
pub heads_formed : (raw : RawProgram) → is_syntax raw ≡ true → HeadsPlain raw.items
heads_formed raw h = items_formed raw.items h
