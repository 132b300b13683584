use Rattle.std.proofs.Common.{rules, ◌≡◌, [], ◌+◌, drop, take, is_some, subst, sym, Err, Ok, ◌∙◌}
use Rattle.c_language.specs.Phrases as phrases
use Rattle.c_types_base.specs.Names.{listed_type}
use Rattle.c_types_base.specs.Tables.{scope_of}
use Rattle.c_types_base.specs.Listing.{HasMembers}
use Rattle.c_types_base.specs.Stretches.{then_comes}
use Rattle.c_types_rules.specs.Walks.{AnswersOf}
use Rattle.c_types_rules.proofs.Checked.{walks_phrase}
use Rattle.c_types_checks.proofs.DeclaredLaws.{member_there}
use Rattle.c_types_rules.proofs.DeclaredSteps.{passed}
use Rattle.c_types_base.proofs.OptionLemmas.{is_there}
use Rattle.c_types_rules.proofs.ItemSteps.{passes_fault, member_fresh}
use Rattle.c_types_base.proofs.TextSteps.{members_here, with_next, of_members}
use Rattle.c_types_base.proofs.ListingLaws.{named_before}
use Rattle.c_types_base.proofs.Stretching.{one_phrase}
use Rattle.c_types_rules.proofs.WalkSteps.{left_same, turn, stops}
use Rattle.c_types_rules.proofs.items.members.Goals as goal

pub returns-in_err-on_line-clause-answers : goal.returns-in_err-on_line-clause-answers
returns-in_err-on_line-clause-answers c =
    let t = c.args.tables.now in
    let list = c.args.list.now in
    let i = c.loop-member.member-index in
    let m = c.member-item.result in
    let one = one_phrase m.line (phrases.HasMember (take i list) m) in
    let rest = of_members (take (i + 1) list) (drop (i + 1) list) in
    let found : c.is_some-is_named.result ≡ is_some (listed_type m.name c.loop-member.listed) = search rules in
    passes_fault (AnswersOf t.raw.now (phrases.member_phrases (scope_of t) [] list)) c.in_err-on_line.field-0.0 c.from_residual.result c.from_residual.ensures.1
    (stops (of_members [] list) t t one rest
    (left_same (of_members [] list) t t (of_members (take i list) (drop i list)) (then_comes one rest) (members_here list i m t.raw.now c.loop-member-test.true c.member-item.is) c.loop-member.invariant.passed)
    t c.in_err-on_line.field-0.0
    (walks_phrase t c.requires m.line (phrases.HasMember (take i list) m) c.check_member.result
    (c.check_member.ensures (take i list) (found ∙ named_before t.raw.now (scope_of t) (take i list) m c.loop-member.listed c.loop-member.invariant.has)) (Err c.in_err-on_line.field-0.0) c.in_err-on_line.ensures))

pub list_member-requires-clause-typed : goal.list_member-requires-clause-typed
list_member-requires-clause-typed c =
    let t = c.args.tables.now in
    let before = take c.loop-member.member-index c.args.list.now in
    let m = c.member-item.result in
    let found : c.is_some-is_named.result ≡ is_some (listed_type m.name c.loop-member.listed) = search rules in
    is_there _ (member_there t.raw.now (scope_of t) before m
    (passed _ m.line c.check_member.result (c.check_member.ensures before (found ∙ named_before t.raw.now (scope_of t) before m c.loop-member.listed c.loop-member.invariant.has)) (sym c.in_ok-on_line.ensures)))

pub list_member-requires-clause-fresh : goal.list_member-requires-clause-fresh
list_member-requires-clause-fresh c =
    let t = c.args.tables.now in
    let before = take c.loop-member.member-index c.args.list.now in
    let m = c.member-item.result in
    let found : c.is_some-is_named.result ≡ is_some (listed_type m.name c.loop-member.listed) = search rules in
    member_fresh t.raw.now (scope_of t) before m c.loop-member.listed c.loop-member.invariant.has
    (passed _ m.line c.check_member.result (c.check_member.ensures before (found ∙ named_before t.raw.now (scope_of t) before m c.loop-member.listed c.loop-member.invariant.has)) (sym c.in_ok-on_line.ensures))

pub loop-member-preserved : goal.loop-member-preserved
loop-member-preserved c =
    let t = c.args.tables.now in
    let list = c.args.list.now in
    let i = c.loop-member.member-index in
    let m = c.member-item.result in
    let one = one_phrase m.line (phrases.HasMember (take i list) m) in
    let rest = of_members (take (i + 1) list) (drop (i + 1) list) in
    let found : c.is_some-is_named.result ≡ is_some (listed_type m.name c.loop-member.listed) = search rules in
    record {
      has = subst (λ ms. HasMembers t.raw.now ms c.list_member.new.listed) (with_next list i m c.loop-member-test.true c.member-item.is) (c.in_ok-list_member.ensures (take i list) c.loop-member.invariant.has);
      passed =
          turn (of_members [] list) t t one rest
          (left_same (of_members [] list) t t (of_members (take i list) (drop i list)) (then_comes one rest) (members_here list i m t.raw.now c.loop-member-test.true c.member-item.is) c.loop-member.invariant.passed)
          t
          (walks_phrase t c.requires m.line (phrases.HasMember (take i list) m) c.check_member.result
          (c.check_member.ensures (take i list) (found ∙ named_before t.raw.now (scope_of t) (take i list) m c.loop-member.listed c.loop-member.invariant.has)) (Ok tt) c.in_ok-on_line.ensures);
    }
