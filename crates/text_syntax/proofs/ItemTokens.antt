-- A program that is syntax has tokens.
use Rattle.std.proofs.Common.{◌≡◌, ℕ, List, [], ◌∷◌, Bool, true, false, not, ◌&&◌, codes, Option, Some, None, refl, sym, subst}
use Rattle.std.specs.List.{list_all}
use Rattle.std.specs.Option.{option_map_or}
use Rattle.std.proofs.lemmas.Bool.{and_parts}
use Rattle.c_tree.specs.declared.raw.expr.RawExpr.{RawExpr}
use Rattle.c_tree.specs.declared.raw.expr.RawType.{RawType}
use Rattle.c_tree.specs.declared.raw.expr.RawType.TheVariants as type
use Rattle.c_tree.specs.declared.raw.expr.RawVar.{RawVar}
use Rattle.c_tree.specs.declared.raw.program.RawInit.{RawInit}
use Rattle.c_tree.specs.declared.raw.program.RawInit.TheVariants as begins
use Rattle.c_tree.specs.declared.raw.program.RawMember.{RawMember}
use Rattle.c_tree.specs.declared.raw.program.RawParam.{RawParam}
use Rattle.c_tree.specs.declared.raw.program.RawHead.{RawHead}
use Rattle.c_tree.specs.declared.raw.program.RawItem.{RawItem}
use Rattle.c_tree.specs.declared.raw.program.RawItem.TheVariants as item
use Rattle.c_tree.specs.declared.raw.program.RawProgram.{RawProgram}
use Rattle.c_language.specs.Words.{Bytes}
use Rattle.c_language.specs.TokenForms.{Tokens, of_kind, name, mark, line_of}
use Rattle.c_language.specs.Sees.{sees_name}
use Rattle.c_language.specs.ExprGrammar.{conditional_level}
use Rattle.c_language.specs.TypeGrammar.{IsTypeName, IsParamName, IsParam, IsMoreParams, IsParams, IsStars}
use Rattle.c_language.specs.StatementGrammar.{IsSeparated}
use Rattle.c_language.specs.ItemGrammar.{IsMemberDeclarator, IsMember, AreMembers, IsGlobal, IsStatic, IsResult, IsHead, are_named, header, IsItem, AreItems, IsProgram}
use Rattle.c_language.specs.Spellings.{is_own_name}
use Rattle.c_language.specs.Syntax.{is_expr, starred, sized, listed, reaches, is_struct, is_pointer, is_declared, is_begun, is_body, is_member, is_param, is_result, is_head, is_item, IsSyntax}
use Rattle.c_language.specs.declared.token.TokenKind.TheVariants.{Include}
use Rattle.c_language.proofs.Tests.{false_true}
use Rattle.text_syntax.proofs.Spelled.{AreSpelled}
use Rattle.text_syntax.proofs.CalmTokens.{AreUntold}
use Rattle.text_syntax.proofs.Clear.{Clear, ClearInside, no_paren_end, name_alone, name_valued, name_listed}
use Rattle.text_syntax.proofs.ClearItems.{params_end, params_first, params_more, ClearHead, head_clear, ClearItems, items_done, items_more, ClearMembers, member_clear, members_last, members_more, include_clear, tag_clear, structure_clear, global_no_function, global_clear, prototype_clear, definition_clear, all_clear}
use Rattle.text_syntax.proofs.TreeTokens.{Tokened, expr_tokens}
use Rattle.text_syntax.proofs.TypeTokens.{Based, NoIntWord, NoBracket, own_parts, pointed_type, star_tokens, stars_are, stars_spelled, points, Declarator, sized_declarator, listed_declarator, list_tokens}
use Rattle.text_syntax.proofs.Runs.{Front, nothing, join, sign, word, of, of_base, of_declarator, Run, on_line, other_mark, no_mark, mark_no_int, name_no_int, mark_no_name, stars_end, NoStar, EndsParam, ends_param}
use Rattle.text_syntax.proofs.CallTokens.{equals_ends, sized_unlisted}
use Rattle.text_syntax.proofs.Marks.{header_is}
use Rattle.text_syntax.proofs.StatementTokens.{body_tokens}

-- ---- types without a name

-- a base and stars, before what isn't one of them
record Named (l : ℕ) (a : RawType) : Type 0 where
  front : Front
  line : (r : Tokens) → line_of (front.tokens r) ≡ l
  is : (r : Tokens) → NoIntWord r → NoStar r → IsTypeName (front.tokens r) a r

named_tokens : (l : ℕ) (a : RawType) → reaches a starred ≡ true → Named l a
named_tokens l a h =
    let x = pointed_type a l starred refl h in
    record {
      front = record { tokens = λ r. x.based.front (star_tokens x.stars l r); spelled = λ r k. x.based.spelled (star_tokens x.stars l r) (stars_spelled x.stars l r k) };
      line = λ r. x.based.line (star_tokens x.stars l r);
      is = λ r n s. IsTypeName.pointed (x.based.is (star_tokens x.stars l r) (stars_end x.stars l r n))
          (subst (λ (b : RawType). IsStars (star_tokens x.stars l r) x.base b r) x.same (stars_are x.stars l x.base r s));
    }

-- ---- parameters

-- the name of a parameter, or nothing
record Called (w : Option Bytes) : Type 0 where
  front : Front
  no_int : (r : Tokens) → NoIntWord r → NoIntWord (front.tokens r)
  no_star : (r : Tokens) → NoStar r → NoStar (front.tokens r)
  is : (r : Tokens) → sees_name r ≡ false → IsParamName (front.tokens r) w r

called_tokens : (w : Option Bytes) → option_map_or is_own_name w true ≡ true → Called w
called_tokens None h = record { front = nothing; no_int = λ r k. k; no_star = λ r k. k; is = λ r k. IsParamName.unnamed k }
called_tokens (Some w) h =
    let p = own_parts w h in
    record { front = word w 0 p.0; no_int = λ r k. name_no_int w 0 r p.1; no_star = λ r k. no_mark w (codes "*") 0 r; is = λ r k. IsParamName.named p.1 }

record Param (p : RawParam) : Type 0 where
  front : Front
  is : (r : Tokens) → EndsParam r → IsParam (front.tokens r) p r

abbrev param : ℕ → Option Bytes → RawType → Option RawExpr → RawParam
param l w a n = record { line = l; name = w; shape = a; length = n }

param_of : (l : ℕ) (w : Option Bytes) (a : RawType) (n : Option RawExpr) → is_param (param l w a n) ≡ true → Param (param l w a n)
param_of l w a None h =
    let p = and_parts (option_map_or is_own_name w true) _ (and_parts (option_map_or is_own_name w true && (reaches a starred && not (is_struct a))) _ h).0 in
    let t = named_tokens l a (and_parts (reaches a starred) _ p.1).0 in
    let c = called_tokens w p.0 in
    record {
      front = join t.front c.front;
      is = λ r k. subst (λ (n : ℕ). IsParam (t.front.tokens (c.front.tokens r)) (param n w a None) r) (t.line (c.front.tokens r))
          (IsParam.plain (t.is (c.front.tokens r) (c.no_int r k.no_int) (c.no_star r k.no_star)) (c.is r k.no_name) k.no_bracket);
    }
param_of l w a (Some e) h =
    let p = and_parts (option_map_or is_own_name w true && (reaches a starred && not (is_struct a))) _ h in
    let q = and_parts (option_map_or is_own_name w true) _ p.0 in
    let i = and_parts (is_pointer a) (is_expr e) p.1 in
    let x = points a (and_parts (reaches a starred) _ q.1).0 i.0 in
    let t = named_tokens l x.to x.starred_too in
    let c = called_tokens w q.0 in
    let n = expr_tokens e conditional_level 0 i.1 in
    record {
      front = join t.front (join c.front (join (sign (codes "[") 0 refl) (join (of n) (sign (codes "]") 0 refl))));
      is = λ r k.
          let next = n.front (mark (codes "]") 0 ∷ r) in
          let mid = c.front.tokens (mark (codes "[") 0 ∷ next) in
          subst (λ (b : RawType). IsParam (t.front.tokens mid) (param l w b (Some e)) r) (sym x.is)
          (subst (λ (m : ℕ). IsParam (t.front.tokens mid) (param m w (type.PointerTo x.to) (Some e)) r) (t.line mid)
          (IsParam.sized (t.is mid (c.no_int (mark (codes "[") 0 ∷ next) (mark_no_int (codes "[") 0 next)) (c.no_star (mark (codes "[") 0 ∷ next) (other_mark (codes "[") (codes "*") 0 next refl)))
          (c.is (mark (codes "[") 0 ∷ next) (mark_no_name (codes "[") 0 next)) (n.is (mark (codes "]") 0 ∷ r))));
    }

no_struct : (p : RawParam) → is_param p ≡ true → not (is_struct p.shape) ≡ true
no_struct p h =
    let q = and_parts (option_map_or is_own_name p.name true && (reaches p.shape starred && not (is_struct p.shape))) _ h in
    (and_parts (reaches p.shape starred) (not (is_struct p.shape)) (and_parts (option_map_or is_own_name p.name true) _ q.0).1).1

-- parameters behind commas, which end the one before them
record MoreParams (ps : List RawParam) : Type 0 where
  front : Front
  ends : (r : Tokens) → EndsParam (front.tokens r)
  is : (r : Tokens) → IsMoreParams (front.tokens r) ps r
  clear : (r : Tokens) → Clear (front.tokens r) r

more_tokens : (ps : List RawParam) → list_all is_param ps ≡ true → MoreParams ps
more_tokens [] h = record { front = sign (codes ")") 0 refl; ends = λ r. ends_param (codes ")") 0 r refl refl; is = λ r. IsMoreParams.closed; clear = λ r. params_end 0 r }
more_tokens (p ∷ ps) h =
    let q = and_parts (is_param p) (list_all is_param ps) h in
    let x = param_of p.line p.name p.shape p.length q.0 in
    let y = more_tokens ps q.1 in
    record {
      front = join (sign (codes ",") 0 refl) (join x.front y.front);
      ends = λ r. ends_param (codes ",") 0 (x.front.tokens (y.front.tokens r)) refl refl;
      is = λ r. IsMoreParams.more (x.is (y.front.tokens r) (y.ends r)) (y.is r);
      clear = λ r. params_more (x.is (y.front.tokens r) (y.ends r)) (no_struct p q.0) (y.clear r);
    }

params_tokens : (ps : List RawParam) → list_all is_param ps ≡ true → Run (λ ts r. IsParams ts ps r × Clear ts r)
params_tokens [] h = record { front = sign (codes ")") 0 refl; is = λ r. (IsParams.empty, params_end 0 r) }
params_tokens (p ∷ ps) h =
    let q = and_parts (is_param p) (list_all is_param ps) h in
    let x = param_of p.line p.name p.shape p.length q.0 in
    let y = more_tokens ps q.1 in
    record {
      front = join x.front y.front;
      is = λ r. let i = x.is (y.front.tokens r) (y.ends r) in (IsParams.some i (y.is r), params_first i (no_struct p q.0) (y.clear r));
    }

-- ---- heads

-- a result, and the name behind it
result_tokens : (l : ℕ) (t : Option RawType) (w : Bytes) → option_map_or is_result t true ≡ true → is_own_name w ≡ true → Tokened (λ ts r. IsResult ts t (name w 0 ∷ r)) l
result_tokens l None w h k = on_line l (join (word (codes "void") l refl) (word w 0 (own_parts w k).0)) (λ r. refl) (λ r. IsResult.nothing)
result_tokens l (Some t) w h k =
    let p = own_parts w k in
    let x = named_tokens l t (and_parts (reaches t starred) _ h).0 in
    on_line l (join x.front (word w 0 p.0)) (λ r. x.line (name w 0 ∷ r)) (λ r. IsResult.some (x.is (name w 0 ∷ r) (name_no_int w 0 r p.1) (no_mark w (codes "*") 0 r)))

abbrev head : Bytes → Option RawType → List RawParam → Bool → RawHead
head w t ps b = record { name = w; result = t; params = ps; is_static = b }

head_of : (l : ℕ) (w : Bytes) (t : Option RawType) (ps : List RawParam) (b : Bool) → is_head (head w t ps b) ≡ true → Tokened (λ ts r. IsHead ts (head w t ps b) r × ClearHead ts r) l
head_of l w t ps true h =
    let p = and_parts (is_own_name w) _ h in
    let q = and_parts (option_map_or is_result t true) (list_all is_param ps) p.1 in
    let x = result_tokens 0 t w q.0 p.0 in
    let y = params_tokens ps q.1 in
    on_line l (join (word (codes "static") l refl) (join (of x) (join (sign (codes "(") 0 refl) y.front))) (λ r. refl)
    (λ r.
    let i = x.is (mark (codes "(") 0 ∷ y.front.tokens r) in
    (IsHead.head IsStatic.static i (own_parts w p.0).1 (y.is r).0, head_clear IsStatic.static i q.0 (own_parts w p.0).1 (y.is r).1))
head_of l w t ps false h =
    let p = and_parts (is_own_name w) _ h in
    let q = and_parts (option_map_or is_result t true) (list_all is_param ps) p.1 in
    let x = result_tokens l t w q.0 p.0 in
    let y = params_tokens ps q.1 in
    on_line l (join (of x) (join (sign (codes "(") 0 refl) y.front)) (λ r. x.line (mark (codes "(") 0 ∷ y.front.tokens r))
    (λ r.
    let i = x.is (mark (codes "(") 0 ∷ y.front.tokens r) in
    (IsHead.head IsStatic.external i (own_parts w p.0).1 (y.is r).0, head_clear IsStatic.external i q.0 (own_parts w p.0).1 (y.is r).1))

-- ---- members

abbrev member_var : RawMember → RawVar
member_var m = record { name = m.name; shape = m.shape }

member_tokens : (m : RawMember) → is_member m ≡ true → Run (λ ts r. IsMember ts (m ∷ []) r × ClearInside ts r)
member_tokens m h =
    let d = sized_declarator m.line (member_var m) h in
    record {
      front = join (of_base d.based) (join (of_declarator d) (sign (codes ";") 0 refl));
      is = λ r.
          let mid = d.front (mark (codes ";") 0 ∷ r) in
          let b = d.based.is mid (d.no_int (mark (codes ";") 0 ∷ r)) in
          let i = d.is (mark (codes ";") 0 ∷ r) (other_mark (codes ";") (codes "[") 0 r refl) in (
            IsMember.member b
                (subst (λ (n : ℕ). IsSeparated (IsMemberDeclarator n d.base) (codes ";") mid (m ∷ []) r) (sym (d.based.line mid))
                (IsSeparated.last (IsMemberDeclarator.named i (sized_unlisted (member_var m) h)))),
            member_clear b i,
          );
    }

members_tokens : (m : RawMember) (all : List RawMember) → list_all is_member (m ∷ all) ≡ true → Run (λ ts r. AreMembers ts (m ∷ all) r × ClearMembers ts r)
members_tokens m [] h =
    let x = member_tokens m (and_parts (is_member m) true h).0 in
    record { front = join x.front (sign (codes "}") 0 refl); is = λ r. let i = x.is (mark (codes "}") 0 ∷ r) in (AreMembers.last i.0, members_last i.1) }
members_tokens m (n ∷ all) h =
    let p = and_parts (is_member m) (list_all is_member (n ∷ all)) h in
    let x = member_tokens m p.0 in
    let y = members_tokens n all p.1 in
    record { front = join x.front y.front; is = λ r. let i = x.is (y.front.tokens r) in (AreMembers.more i.0 (y.is r).0, members_more i.1 (y.is r).1) }

-- ---- globals

-- a base, and one declarator with its initialiser
record Globe (l : ℕ) (b : Bool) (x : RawItem) : Type 0 where
  base : RawType
  based : Based l base
  front : Front
  no_int : (r : Tokens) → NoIntWord (front.tokens r)
  is : (r : Tokens) → NoBracket r → IsGlobal l b base (front.tokens r) x r
  clear : (r : Tokens) → NoBracket r → Clear (front.tokens r) r

globe : {l : ℕ} {b : Bool} {v : RawVar} {x : RawItem} (d : Declarator l v) (tail : Front) → ((r : Tokens) → NoBracket r → IsGlobal l b d.base (d.front (tail.tokens r)) x r × Clear (d.front (tail.tokens r)) r) → Globe l b x
globe d tail is = record { base = d.base; based = d.based; front = join (of_declarator d) tail; no_int = λ r. d.no_int (tail.tokens r); is = λ r k. (is r k).0; clear = λ r k. (is r k).1 }

globe_tokens : (l : ℕ) (v : RawVar) (i : RawInit) (b : Bool) → is_begun v i ≡ true → Globe l b (item.Global l v i b)
globe_tokens l v begins.None b h =
    let d = sized_declarator l v h in
    globe d nothing (λ r k. (IsGlobal.plain (d.is r k) (sized_unlisted v h), name_alone (d.is r k)))
globe_tokens l v (begins.One a) b h =
    let p = and_parts (is_declared v sized) (is_expr a) h in
    let d = sized_declarator l v p.0 in
    let x = expr_tokens a conditional_level 0 p.1 in
    globe d (join (sign (codes "=") 0 refl) (of x)) (λ r k. let i = d.is (mark (codes "=") 0 ∷ x.front r) (equals_ends (x.front r)) in (IsGlobal.value i (sized_unlisted v p.0) (x.is r), name_valued i (x.is r)))
globe_tokens l v (begins.Items []) b h = false_true (and_parts (is_declared v listed) _ h).1
globe_tokens l v (begins.Items (a ∷ all)) b h =
    let p = and_parts (is_declared v listed) _ h in
    let d = listed_declarator l v p.0 in
    let x = list_tokens 0 a all p.1 in
    globe d (join (sign (codes "=") 0 refl) (join (sign (codes "{") 0 refl) (of x)))
    (λ r k. let i = d.is (mark (codes "=") 0 ∷ mark (codes "{") 0 ∷ x.front r) (equals_ends (mark (codes "{") 0 ∷ x.front r)) in (IsGlobal.list i (x.is r).0, name_listed i (x.is r).1))

-- ---- items

-- tokens of an item, among which no left-out construct is told
abbrev One : RawItem → Tokens → Tokens → Type 0
One x ts r = IsItem ts (x ∷ []) r × ClearItems ts r

abbrev Item : RawItem → Type 0
Item x = Run (One x)

global_item : (l : ℕ) (v : RawVar) (i : RawInit) (b : Bool) → is_begun v i ≡ true → Item (item.Global l v i b)
global_item l v i true h =
    let o = globe_tokens l v i true h in
    record {
      front = join (word (codes "static") l refl) (join (of_base o.based) (join o.front (sign (codes ";") 0 refl)));
      is = λ r.
          let b = o.based.is (o.front.tokens (mark (codes ";") 0 ∷ r)) (o.no_int (mark (codes ";") 0 ∷ r)) in
          let end = other_mark (codes ";") (codes "[") 0 r refl in
          let g = o.is (mark (codes ";") 0 ∷ r) end in (
            IsItem.globals IsStatic.static b (IsSeparated.last g),
            global_clear IsStatic.static b (global_no_function g (no_paren_end 0 r)) (o.clear (mark (codes ";") 0 ∷ r) end),
          );
    }
global_item l v i false h =
    let o = globe_tokens l v i false h in
    record {
      front = join (of_base o.based) (join o.front (sign (codes ";") 0 refl));
      is = λ r.
          let mid = o.front.tokens (mark (codes ";") 0 ∷ r) in
          let b = o.based.is mid (o.no_int (mark (codes ";") 0 ∷ r)) in
          let end = other_mark (codes ";") (codes "[") 0 r refl in
          let g = o.is (mark (codes ";") 0 ∷ r) end in
          let all = subst (λ (n : ℕ). IsSeparated (IsGlobal n false o.base) (codes ";") mid (item.Global l v i false ∷ []) r) (sym (o.based.line mid)) (IsSeparated.last g) in
          (IsItem.globals IsStatic.external b all, global_clear IsStatic.external b (global_no_function g (no_paren_end 0 r)) (o.clear (mark (codes ";") 0 ∷ r) end));
    }

item_tokens : (x : RawItem) → is_item x ≡ true → Item x
item_tokens (item.Include is_stdlib) h = record { front = record { tokens = λ r. of_kind Include (header is_stdlib) 0 ∷ r; spelled = λ r k. (header_is is_stdlib, k) }; is = λ r. (IsItem.include is_stdlib, include_clear is_stdlib 0 r) }
item_tokens (item.Tag l w) h =
    let p = own_parts w h in
    record { front = join (word (codes "struct") l refl) (join (word w 0 p.0) (sign (codes ";") 0 refl)); is = λ r. (IsItem.tag p.1, tag_clear p.1) }
item_tokens (item.Struct l w []) h = false_true (and_parts (is_own_name w) _ h).1
item_tokens (item.Struct l w (m ∷ all)) h =
    let p = and_parts (is_own_name w) _ h in
    let q = own_parts w p.0 in
    let x = members_tokens m all p.1 in
    record {
      front = join (word (codes "struct") l refl) (join (word w 0 q.0) (join (sign (codes "{") 0 refl) (join x.front (sign (codes ";") 0 refl))));
      is = λ r. let i = x.is (mark (codes ";") 0 ∷ r) in (IsItem.structure q.1 i.0, structure_clear q.1 i.1);
    }
item_tokens (item.Global l v i b) h = global_item l v i b h
item_tokens (item.Prototype l f) h =
    let x = head_of l f.name f.result f.params f.is_static h in
    record {
      front = join (of x) (sign (codes ";") 0 refl);
      is = λ r.
          let i = x.is (mark (codes ";") 0 ∷ r) in
          subst (λ (n : ℕ). One (item.Prototype n f) (x.front (mark (codes ";") 0 ∷ r)) r) (x.line (mark (codes ";") 0 ∷ r)) (IsItem.prototype i.0, prototype_clear i.1);
    }
item_tokens (item.Define l f body) h =
    let p = and_parts (is_head f) _ h in
    let q = and_parts (are_named f.params) (is_body body) p.1 in
    let x = head_of l f.name f.result f.params f.is_static p.0 in
    let y = body_tokens body q.1 in
    record {
      front = join (of x) (join (sign (codes "{") 0 refl) (join y.front (sign (codes "}") 0 refl)));
      is = λ r.
          let next = mark (codes "{") 0 ∷ y.front.tokens (mark (codes "}") 0 ∷ r) in
          let i = x.is next in
          subst (λ (n : ℕ). One (item.Define n f body) (x.front next) r) (x.line next)
          (IsItem.definition i.0 q.0 (y.is (mark (codes "}") 0 ∷ r)), definition_clear i.1 (y.clear (mark (codes "}") 0 ∷ r)));
    }

items_tokens : (xs : List RawItem) → list_all is_item xs ≡ true → Run (λ ts r. AreItems ts xs r × ClearItems ts r)
items_tokens [] h = record { front = nothing; is = λ r. (AreItems.done, items_done r) }
items_tokens (x ∷ xs) h =
    let p = and_parts (is_item x) (list_all is_item xs) h in
    let y = item_tokens x p.0 in
    let z = items_tokens xs p.1 in
    record { front = join y.front z.front; is = λ r. let a = y.is (z.front.tokens r) in let b = z.is r in (AreItems.more a.0 b.0, items_more a.1 b.1) }

-- ---- programs

-- tokens that are spelled as their kinds are, in the grammar, among which no left-out construct is told
pub record HasTokens (raw : RawProgram) : Type 0 where
  pub tokens : Tokens
  pub spelled : AreSpelled tokens
  pub is : IsProgram tokens raw
  pub untold : AreUntold [] tokens

-- a tree that is syntax has tokens
pub syntax_has_tokens : (raw : RawProgram) → IsSyntax raw → HasTokens raw
syntax_has_tokens raw h = let x = items_tokens raw.items h in record { tokens = x.front.tokens []; spelled = x.front.spelled [] tt; is = (x.is []).0; untold = all_clear (x.is []).1 }
