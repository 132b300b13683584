-- What is printed of items that are syntax has their tokens: they have the same trees, but for what the layout drops.
use Rattle.std.proofs.Common.{◌≡◌, ℕ, ◌+◌, List, [], ◌∷◌, ◌++◌, length, map, replicate, append_assoc, append-nil, refl, sym, ap, ap₂, ◌∙◌, subst, Bool, true, false, ◌&&◌, not, codes, Option, Some, None}
use Rattle.std.specs.List.{list_all}
use Rattle.std.specs.Option.{option_map_or}
use Rattle.std.proofs.lemmas.Bool.{and_parts}
use Rattle.c_tree.specs.declared.raw.expr.RawType.{RawType}
use Rattle.c_tree.specs.declared.raw.expr.RawVar.{RawVar}
use Rattle.c_tree.specs.declared.raw.program.RawInit.{RawInit}
use Rattle.c_tree.specs.declared.raw.program.RawInit.TheVariants as init
use Rattle.c_tree.specs.declared.raw.program.RawMember.{RawMember}
use Rattle.c_tree.specs.declared.raw.program.RawHead.{RawHead}
use Rattle.c_tree.specs.declared.raw.program.RawItem.{RawItem}
use Rattle.c_tree.specs.declared.raw.program.RawItem.TheVariants as item
use Rattle.c_tree.specs.declared.raw.program.RawProgram.{RawProgram}
use Rattle.c_tree.specs.declared.raw.statement.RawStatement.{RawStatement}
use Rattle.c_language.specs.Words.{Bytes, joined}
use Rattle.c_language.specs.TokenForms.{Tokens, of_kind, name, mark, line_of}
use Rattle.c_language.specs.Tokens.{name_goes_on, number_goes_on, IsGap, IsInclude, IsLineTail, IsToken, IsTokens}
use Rattle.c_language.specs.DeclaredTypes.{item_count}
use Rattle.c_language.specs.Sees.{sees}
use Rattle.c_language.specs.ExprGrammar.{conditional_level}
use Rattle.c_language.specs.TypeGrammar.{IsTypeName, IsDeclarator}
use Rattle.c_language.specs.StatementGrammar.{IsSeparated}
use Rattle.c_language.specs.ItemGrammar.{IsMemberDeclarator, IsMember, AreMembers, IsGlobal, IsResult, IsHead, are_named, header, IsItem, AreItems}
use Rattle.c_language.specs.Layout.{static_words, params_words, include_words}
use Rattle.c_language.specs.Layout.{line as whole_line}
use Rattle.c_language.specs.Spellings.{is_own_name}
use Rattle.c_language.specs.Syntax.{is_expr, starred, sized, listed, reaches, is_struct, is_declared, is_begun, is_body, is_member, is_param, is_result, is_head, is_item, IsSyntax}
use Rattle.c_language.specs.declared.token.TokenKind.TheVariants.{Mark, Include}
use Rattle.c_language.specs.declared.token.Before.TheVariants.{Blank, Token}
use Rattle.c_language.proofs.Tests.{false_true}
use Rattle.text_syntax.proofs.TypeTokens.{own_parts}
use Rattle.text_syntax.proofs.Clear.{ClearInside, no_paren_end, name_alone, name_valued, name_listed}
use Rattle.text_syntax.proofs.ClearItems.{head_clear, ClearItems, items_done, items_more, ClearMembers, member_clear, members_last, members_more, include_clear, tag_clear, structure_clear, global_no_function, global_clear, prototype_clear, definition_clear, all_clear}
use Rattle.c_text_layout.specs.RawLayout.{raw_declared, raw_init_words, raw_body_lines, raw_result_words, raw_param_words, raw_head_words, raw_member_lines, raw_item_lines, raw_items_lines, raw_layout}
use Rattle.c_text_layout.specs.Settled.{settled_var, settled_member, settled_item, item_lacks_lengths, items_lack_lengths}
use Rattle.c_text_layout.specs.SpacedWords.{spaced_words}
use Rattle.c_text_layout.specs.Declarations.{is_short, HasShortLists, item_passes, items_pass}
use Rattle.c_text_layout.specs.Laws.{HasTreeAgain}
use Rattle.c_text_layout.proofs.SpelledForms.{name_form}
use Rattle.c_text_layout.proofs.TokenPrint.{blank_no_feed, print_blank, print_line, print_mark, Stops, print_name, word_form}
use Rattle.c_text_layout.proofs.ExprTexts.{expr_text, mark_no_else}
use Rattle.c_text_layout.proofs.TypePrint.{name_no_int, print_stars, name_sure, name_no_star}
use Rattle.c_text_layout.proofs.TypeTexts.{basic_laid, basic_text, starred_type, named_text, params_text}
use Rattle.c_text_layout.proofs.SimplePrint.{Has, has_as, print_equals}
use Rattle.c_text_layout.proofs.DeclaredPrint.{equals_no_length, equals_join, list_join}
use Rattle.c_text_layout.proofs.DeclaredTexts.{list_text, sized_name, sized_stays, sized_text, settled_unlisted, listed_name, listed_twice}
use Rattle.c_text_layout.proofs.DeclarationLemmas.{list_passes}
use Rattle.c_text_layout.proofs.StatementPrint.{print_indent, ended_join, semicolon_no_length}
use Rattle.c_text_layout.proofs.StatementTexts.{body_text}
use Rattle.c_text_layout.proofs.ItemPrint.{print_static, result_join, PrintedHead, head_join, named_settled, head_of, Global, global_words, global_join, struct_join, tag_join, prototype_join, definition_join, ReadsAs}

-- ---- heads of functions

result_text : (t : Option RawType) → option_map_or is_result t true ≡ true → (f : Bytes) → is_own_name f ≡ true → (line : ℕ) (more : Bytes) (after : Tokens) → Stops name_goes_on more → IsTokens Token line more after
    → Has line (raw_result_words t ++ (f ++ more)) (λ ts. IsResult ts t (name f line ∷ after))
result_text None h f own line more after s k =
    let form = name_form f (own_parts f own).0 in
    record {
      tokens = name (codes "void") line ∷ name f line ∷ after;
      lexed = λ before. print_name (codes "void") (word_form (codes "void") refl) (λ b. refl) (print_blank (print_name f form s k));
      is = IsResult.nothing;
    }
result_text (Some t) h f own line more after s k =
    let p = own_parts f own in
    let form = name_form f p.0 in
    let q = starred_type t starred refl (and_parts (reaches t starred) (not (is_struct t)) h).0 in
    let x = print_stars q.stars q.base line (f ++ more) (name f line ∷ after) (name_sure f more form) (name_no_star f (codes "*") line after) (print_name f form s k) in
    let y = basic_text q.basic line (32 ∷ (replicate {A = ℕ} q.stars 42 ++ (f ++ more))) x.tokens (λ d. refl) (x.no_int (name_no_int f line after p.1)) (print_blank x.lexed) in
    subst (λ (z : RawType). Has line (raw_result_words (Some z) ++ (f ++ more)) (λ ts. IsResult ts (Some z) (name f line ∷ after))) (sym q.same)
    (has_as (result_join q.stars q.base f more (basic_laid q.basic)) (record { tokens = y.tokens; lexed = y.lexed; is = IsResult.some (IsTypeName.pointed y.is x.is) }))

head_text : (h : RawHead) → is_head h ≡ true → (line : ℕ) (more : Bytes) (after : Tokens) → IsTokens Token line more after → PrintedHead line (raw_head_words h ++ more) h after
head_text h k line more after t =
    let p = and_parts (is_own_name h.name) _ k in
    let q = and_parts (option_map_or is_result h.result true) (list_all is_param h.params) p.1 in
    let ps = params_text h.params q.1 line more after t in
    let r = result_text h.result q.0 h.name p.0 line (40 ∷ (params_words (map raw_param_words h.params) ++ (41 ∷ more))) (mark (codes "(") line ∷ ps.tokens) (λ c. refl) (print_mark (codes "(") refl refl (ps.lexed Token)) in
    let x = print_static h.is_static r in
    subst (λ (z : Bytes). PrintedHead line z h after) (sym (head_join (static_words h.is_static) (raw_result_words h.result) h.name (params_words (map raw_param_words h.params)) more))
    (record {
      tokens = x.tokens;
      lexed = x.lexed;
      found = head_of h.name h.result h.is_static ps.found;
      is = IsHead.head x.is.is x.is.has (own_parts h.name p.0).1 ps.is;
      same = ap (head_of h.name h.result h.is_static) ps.same;
      named = sym (named_settled ps.found) ∙ ap are_named ps.same ∙ named_settled h.params;
      bare = ps.bare;
      clear = head_clear x.is.is x.is.has q.0 (own_parts h.name p.0).1 ps.clear;
    })

-- ---- structs

-- a member in its line, the same in all that the layout keeps
record MemberText (line : ℕ) (bytes : Bytes) (m : RawMember) (after : Tokens) : Type 0 where
  tokens : Tokens
  lexed : IsTokens Blank line bytes tokens
  found : RawMember
  is : IsMember tokens (found ∷ []) after
  same : settled_member found ≡ settled_member m
  clear : ClearInside tokens after

abbrev member_var : RawMember → RawVar
member_var m = record { name = m.name; shape = m.shape }

member_text : (m : RawMember) → is_member m ≡ true → (line : ℕ) (tl : Bytes) (after : Tokens) → IsTokens Blank (line + 1) tl after → MemberText line (whole_line 1 (raw_declared 0 m.shape m.name ++ codes ";") ++ tl) m after
member_text m h line tl after k =
    let v = member_var m in
    let n = sized_name v h in
    let x = sized_text n line (59 ∷ 10 ∷ tl) (mark (codes ";") line ∷ after) (λ d. refl) (semicolon_no_length line after) (print_mark (codes ";") refl refl (print_line k)) in
    let d : IsDeclarator x.mid x.base v (mark (codes ";") line ∷ after) = subst (λ (z : RawVar). IsDeclarator x.mid x.base z (mark (codes ";") line ∷ after)) (sized_stays n) x.is in
    subst (λ (z : Bytes). MemberText line z m after) (sym (ended_join 1 (raw_declared 0 m.shape m.name) tl))
    (record {
      tokens = x.tokens;
      lexed = print_indent 1 (x.lexed Blank);
      found = record { line = line_of x.tokens; name = m.name; shape = m.shape };
      is = IsMember.member x.is_base (IsSeparated.last (IsMemberDeclarator.named d n.unlisted));
      clear = member_clear x.is_base d;
      same = refl;
    })

-- members up to the closing brace
record MembersText (line : ℕ) (bytes : Bytes) (ms : List RawMember) (after : Tokens) : Type 0 where
  tokens : Tokens
  lexed : IsTokens Blank line bytes tokens
  found : List RawMember
  is : AreMembers tokens found after
  same : map settled_member found ≡ map settled_member ms
  clear : ClearMembers tokens after

record Members (ms : List RawMember) : Type 0 where
  next : ℕ → ℕ
  text : (line : ℕ) (more : Bytes) (after : Tokens) → IsTokens Token (next line) more after → MembersText line (raw_member_lines ms ++ (125 ∷ more)) ms after

members_text : (m : RawMember) (ms : List RawMember) → list_all is_member (m ∷ ms) ≡ true → Members (m ∷ ms)
members_text m [] h = record {
  next = λ line. line + 1;
  text = λ line more after k.
      let x = member_text m (and_parts (is_member m) true h).0 line (125 ∷ more) (mark (codes "}") (line + 1) ∷ after) (print_mark (codes "}") refl refl k) in
      subst (λ (z : Bytes). MembersText line (z ++ (125 ∷ more)) (m ∷ []) after) (sym (append-nil (whole_line 1 (raw_declared 0 m.shape m.name ++ codes ";"))))
      (record { tokens = x.tokens; lexed = x.lexed; found = x.found ∷ []; is = AreMembers.last x.is; same = ap (λ (y : RawMember). y ∷ []) x.same; clear = members_last x.clear });
}
members_text m (n ∷ ms) h =
    let p = and_parts (is_member m) (list_all is_member (n ∷ ms)) h in
    let y = members_text n ms p.1 in
    record {
      next = λ line. y.next (line + 1);
      text = λ line more after k.
          let z = y.text (line + 1) more after k in
          let x = member_text m p.0 line (raw_member_lines (n ∷ ms) ++ (125 ∷ more)) z.tokens z.lexed in
          subst (λ (w : Bytes). MembersText line w (m ∷ n ∷ ms) after) (sym (append_assoc (whole_line 1 (raw_declared 0 m.shape m.name ++ codes ";")) (raw_member_lines (n ∷ ms)) (125 ∷ more)))
          (record { tokens = x.tokens; lexed = x.lexed; found = x.found ∷ z.found; is = AreMembers.more x.is z.is; same = ap₂ (λ (c : RawMember) (cs : List RawMember). c ∷ cs) x.same z.same; clear = members_more x.clear z.clear });
    }

-- ---- globals

global_text : (l : ℕ) (v : RawVar) (i : RawInit) (b : Bool) → is_begun v i ≡ true → is_short v i ≡ true → (line : ℕ) (more : Bytes) (after : Tokens) → Stops number_goes_on more → sees Mark (codes "[") after ≡ false → IsTokens Token line more after
    → Has line (global_words (item.Global l v i b) ++ more) (Global line b (item.Global l v i b) after)
global_text l v init.None b h short line more after s f t =
    let n = sized_name v h in
    let x = sized_text n line more after s f t in
    has_as (ap (λ (z : Bytes). z ++ more) (append-nil (raw_declared 0 v.shape v.name)))
    (record {
      tokens = x.tokens;
      lexed = x.lexed;
      is = record {
        next = x.mid;
        base = x.base;
        is_base = x.is_base;
        found = λ k. item.Global k (settled_var 0 v) init.None b;
        is = λ k. IsGlobal.plain x.is (settled_unlisted n);
        clear = name_alone x.is;
        same = λ k. ap (λ (z : RawVar). item.Global 0 (settled_var 0 z) init.None b) (sized_stays n);
        bare = λ k. refl;
      };
    })
global_text l v (init.One a) b h short line more after s f t =
    let p = and_parts (is_declared v sized) (is_expr a) h in
    let n = sized_name v p.0 in
    let y = expr_text a conditional_level p.1 line more after s t in
    let x = sized_text n line (codes " = " ++ (spaced_words a ++ more)) (mark (codes "=") line ∷ y.tokens) (λ d. refl) (equals_no_length line y.tokens) (print_equals (y.lexed Token)) in
    has_as (equals_join (raw_declared 0 v.shape v.name) (spaced_words a) more)
    (record {
      tokens = x.tokens;
      lexed = x.lexed;
      is = record {
        next = x.mid;
        base = x.base;
        is_base = x.is_base;
        found = λ k. item.Global k (settled_var 0 v) (init.One a) b;
        is = λ k. IsGlobal.value x.is (settled_unlisted n) y.is;
        clear = name_valued x.is y.is;
        same = λ k. ap (λ (z : RawVar). item.Global 0 (settled_var 0 z) (init.One a) b) (sized_stays n);
        bare = λ k. refl;
      };
    })
global_text l v (init.Items []) b h short line more after s f t = false_true (and_parts (is_declared v listed) _ h).1
global_text l v (init.Items (a ∷ all)) b h short line more after s f t =
    let p = and_parts (is_declared v listed) _ h in
    let c = length (a ∷ all) in
    let n = listed_name v a all p.0 short in
    let y = list_text a all p.1 line more after t in
    let x = named_text v n.own n.parts line (codes " = {" ++ (joined (codes ", ") (map spaced_words (a ∷ all)) ++ (125 ∷ more))) (mark (codes "=") line ∷ mark (codes "{") line ∷ y.tokens) (λ d. refl)
    (equals_no_length line (mark (codes "{") line ∷ y.tokens)) (print_equals (print_mark (codes "{") refl refl (y.lexed Token))) in
    has_as (list_join (raw_declared c v.shape v.name) (joined (codes ", ") (map spaced_words (a ∷ all))) more)
    (record {
      tokens = x.tokens;
      lexed = x.lexed;
      is = record {
        next = x.mid;
        base = x.base;
        is_base = x.is_base;
        found = λ k. item.Global k (settled_var c v) (init.Items (a ∷ all)) b;
        is = λ k. IsGlobal.list x.is y.is.0;
        clear = name_listed x.is y.is.1;
        same = λ k. ap (λ (z : RawVar). item.Global 0 z (init.Items (a ∷ all)) b) (listed_twice n);
        bare = λ k. refl;
      };
    })

-- ---- items

-- tokens of the lines of an item that is the same in all that the layout keeps, and then these
record ItemText (line : ℕ) (bytes : Bytes) (x : RawItem) (after : Tokens) : Type 0 where
  tokens : Tokens
  lexed : IsTokens Blank line bytes tokens
  found : RawItem
  is : IsItem tokens (found ∷ []) after
  clear : ClearItems tokens after
  same : settled_item found ≡ settled_item x
  bare : item_lacks_lengths found ≡ true

item_as : {line : ℕ} {x : RawItem} {after : Tokens} {a b : Bytes} → a ≡ b → ItemText line b x after → ItemText line a x after
item_as {line} {x} {after} e t = subst (λ (z : Bytes). ItemText line z x after) (sym e) t

record Itemed (x : RawItem) : Type 0 where
  next : ℕ → ℕ
  text : (line : ℕ) (tl : Bytes) (after : Tokens) → IsTokens Blank (next line) tl after → ItemText line (raw_item_lines x ++ tl) x after

include_item : (is_stdlib : Bool) → Itemed (item.Include is_stdlib)
include_item true = record {
  next = λ line. line + 1;
  text = λ line tl after k. record {
    tokens = of_kind Include (header true) line ∷ after;
    lexed = IsTokens.token {own = include_words true} (IsToken.include (IsInclude.include {gap = []} {next = codes " "} {header = header true} IsGap.none (IsGap.blank refl blank_no_feed IsGap.none) refl) ([], 10 ∷ tl, IsGap.none, IsLineTail.ends refl, refl)) (print_line k);
    found = item.Include true;
    is = IsItem.include true;
    clear = include_clear true line after;
    same = refl;
    bare = refl;
  };
}
include_item false = record {
  next = λ line. line + 1;
  text = λ line tl after k. record {
    tokens = of_kind Include (header false) line ∷ after;
    lexed = IsTokens.token {own = include_words false} (IsToken.include (IsInclude.include {gap = []} {next = codes " "} {header = header false} IsGap.none (IsGap.blank refl blank_no_feed IsGap.none) refl) ([], 10 ∷ tl, IsGap.none, IsLineTail.ends refl, refl)) (print_line k);
    found = item.Include false;
    is = IsItem.include false;
    clear = include_clear false line after;
    same = refl;
    bare = refl;
  };
}

tag_item : (l : ℕ) (f : Bytes) → is_own_name f ≡ true → Itemed (item.Tag l f)
tag_item l f h =
    let p = own_parts f h in
    record {
      next = λ line. line + 1;
      text = λ line tl after k. item_as (tag_join f tl) (record {
        tokens = name (codes "struct") line ∷ name f line ∷ mark (codes ";") line ∷ after;
        lexed = print_name (codes "struct") (word_form (codes "struct") refl) (λ b. refl) (print_blank (print_name f (name_form f p.0) (λ b. refl) (print_mark (codes ";") refl refl (print_line k))));
        found = item.Tag line f;
        is = IsItem.tag p.1;
        clear = tag_clear p.1;
        same = refl;
        bare = refl;
      });
    }

struct_item : (l : ℕ) (f : Bytes) (m : RawMember) (ms : List RawMember) → is_own_name f ≡ true → list_all is_member (m ∷ ms) ≡ true → Itemed (item.Struct l f (m ∷ ms))
struct_item l f m ms own h =
    let p = own_parts f own in
    let x = members_text m ms h in
    record {
      next = λ line. x.next (line + 1) + 1;
      text = λ line tl after k.
          let end = x.next (line + 1) in
          let y = x.text (line + 1) (59 ∷ 10 ∷ tl) (mark (codes ";") end ∷ after) (print_mark (codes ";") refl refl (print_line k)) in
          item_as (struct_join f (raw_member_lines (m ∷ ms)) tl)
          (record {
            tokens = name (codes "struct") line ∷ name f line ∷ mark (codes "{") line ∷ y.tokens;
            lexed = print_name (codes "struct") (word_form (codes "struct") refl) (λ b. refl) (print_blank (print_name f (name_form f p.0) (λ b. refl) (print_blank (print_mark (codes "{") refl refl (print_line y.lexed)))));
            found = item.Struct line f y.found;
            is = IsItem.structure p.1 y.is;
            clear = structure_clear p.1 y.clear;
            same = ap (item.Struct 0 f) y.same;
            bare = refl;
          });
    }

global_item : (l : ℕ) (v : RawVar) (i : RawInit) (b : Bool) → is_begun v i ≡ true → is_short v i ≡ true → Itemed (item.Global l v i b)
global_item l v i b h short = record {
  next = λ line. line + 1;
  text = λ line tl after k.
      let g = global_text l v i b h short line (59 ∷ 10 ∷ tl) (mark (codes ";") line ∷ after) (λ d. refl) (semicolon_no_length line after) (print_mark (codes ";") refl refl (print_line k)) in
      let x = print_static b g in
      let q = x.is.has in
      let at = line_of x.tokens in
      item_as (global_join (static_words b) (raw_declared (item_count i) v.shape v.name) (raw_init_words i) tl)
      (record {
        tokens = x.tokens;
        lexed = x.lexed Blank;
        found = q.found at;
        is = IsItem.globals x.is.is q.is_base (IsSeparated.last (q.is at));
        clear = global_clear x.is.is q.is_base (global_no_function (q.is at) (no_paren_end line after)) q.clear;
        same = q.same at;
        bare = q.bare at;
      });
}

prototype_item : (l : ℕ) (h : RawHead) → is_head h ≡ true → Itemed (item.Prototype l h)
prototype_item l h k = record {
  next = λ line. line + 1;
  text = λ line tl after t.
      let x = head_text h k line (59 ∷ 10 ∷ tl) (mark (codes ";") line ∷ after) (print_mark (codes ";") refl refl (print_line t)) in
      item_as (prototype_join (raw_head_words h) tl)
      (record {
        tokens = x.tokens;
        lexed = x.lexed Blank;
        found = item.Prototype (line_of x.tokens) x.found;
        is = IsItem.prototype x.is;
        clear = prototype_clear x.clear;
        same = ap (item.Prototype 0) x.same;
        bare = x.bare;
      });
}

define_item : (l : ℕ) (h : RawHead) (body : List RawStatement) → is_head h ≡ true → are_named h.params ≡ true → is_body body ≡ true → list_passes is_short body ≡ true → Itemed (item.Define l h body)
define_item l h body k named b short =
    let y = body_text body b short in
    record {
      next = λ line. y.next (line + 1) + 1;
      text = λ line tl after t.
          let end = y.next (line + 1) in
          let z = y.text 1 (line + 1) (125 ∷ 10 ∷ tl) (mark (codes "}") end ∷ after) (print_mark (codes "}") refl refl (print_line t)) (mark_no_else (codes "}") end after) in
          let x = head_text h k line (32 ∷ 123 ∷ 10 ∷ (raw_body_lines 1 body ++ (125 ∷ 10 ∷ tl))) (mark (codes "{") line ∷ z.tokens) (print_blank (print_mark (codes "{") refl refl (print_line z.lexed))) in
          item_as (definition_join (raw_head_words h) (raw_body_lines 1 body) tl)
          (record {
            tokens = x.tokens;
            lexed = x.lexed Blank;
            found = item.Define (line_of x.tokens) x.found z.found;
            is = IsItem.definition x.is (x.named ∙ named) z.is;
            clear = definition_clear x.clear z.clear;
            same = ap₂ (item.Define 0) x.same z.same;
            bare = x.bare;
          });
    }

item_text : (x : RawItem) → is_item x ≡ true → item_passes is_short x ≡ true → Itemed x
item_text (item.Include is_stdlib) h short = include_item is_stdlib
item_text (item.Tag l f) h short = tag_item l f h
item_text (item.Struct l f []) h short = false_true (and_parts (is_own_name f) _ h).1
item_text (item.Struct l f (m ∷ ms)) h short = let p = and_parts (is_own_name f) _ h in struct_item l f m ms p.0 p.1
item_text (item.Global l v i b) h short = global_item l v i b h short
item_text (item.Prototype l f) h short = prototype_item l f h
item_text (item.Define l f body) h short =
    let p = and_parts (is_head f) _ h in
    let q = and_parts (are_named f.params) (is_body body) p.1 in
    define_item l f body p.0 q.0 q.1 short

-- those of a list of items
record ItemsText (line : ℕ) (bytes : Bytes) (xs : List RawItem) (after : Tokens) : Type 0 where
  tokens : Tokens
  lexed : IsTokens Blank line bytes tokens
  found : List RawItem
  is : AreItems tokens found after
  clear : ClearItems tokens after
  same : map settled_item found ≡ map settled_item xs
  bare : items_lack_lengths found ≡ true

record Items (xs : List RawItem) : Type 0 where
  next : ℕ → ℕ
  text : (line : ℕ) (tl : Bytes) (after : Tokens) → IsTokens Blank (next line) tl after → ItemsText line (raw_items_lines xs ++ tl) xs after

items_text : (xs : List RawItem) → list_all is_item xs ≡ true → items_pass is_short xs ≡ true → Items xs
items_text [] h short = record {
  next = λ line. line;
  text = λ line tl after k. record { tokens = after; lexed = k; found = []; is = AreItems.done; clear = items_done after; same = refl; bare = refl };
}
items_text (x ∷ xs) h short =
    let p = and_parts (is_item x) (list_all is_item xs) h in
    let q = and_parts (item_passes is_short x) (items_pass is_short xs) short in
    let a = item_text x p.0 q.0 in
    let b = items_text xs p.1 q.1 in
    record {
      next = λ line. b.next (a.next line);
      text = λ line tl after k.
          let y = b.text (a.next line) tl after k in
          let z = a.text line (raw_items_lines xs ++ tl) y.tokens y.lexed in
          subst (λ (w : Bytes). ItemsText line w (x ∷ xs) after) (sym (append_assoc (raw_item_lines x) (raw_items_lines xs) tl))
          (record {
            tokens = z.tokens;
            lexed = z.lexed;
            found = z.found ∷ y.found;
            is = AreItems.more z.is y.is;
            clear = items_more z.clear y.clear;
            same = ap₂ (λ (c : RawItem) (cs : List RawItem). c ∷ cs) z.same y.same;
            bare = ap₂ (λ (c d : Bool). c && d) z.bare y.bare;
          });
    }

-- ---- the law

-- What is printed of a tree that is syntax, where its lists are short, has tokens of that tree again.
pub syntax_is_printed : (line : ℕ) (raw : RawProgram) → IsSyntax raw → HasShortLists raw → ReadsAs line (raw_layout raw) raw
syntax_is_printed line raw h short =
    let x = (items_text raw.items h short).text line [] [] IsTokens.done in
    record {
      tokens = x.tokens;
      found = record { items = x.found };
      lexed = subst (λ (y : Bytes). IsTokens Blank line y x.tokens) (append-nil (raw_layout raw)) x.lexed;
      is = x.is;
      same = x.same;
      bare = x.bare;
      untold = all_clear x.clear;
    }

-- The layout of a tree that is syntax is read as that tree.
pub has_tree_again : (raw : RawProgram) → IsSyntax raw → HasShortLists raw → HasTreeAgain (raw_layout raw) raw
has_tree_again raw h short =
    let r : ReadsAs 1 (raw_layout raw) raw = syntax_is_printed 1 raw h short in
    record { tokens = r.tokens; found = r.found; lexed = r.lexed; is = r.is; same = r.same; bare = r.bare }
