use Rattle.std.proofs.Common.{◌≡◌, IfErr}
use Rattle.edge_io.specs.declared.shelf.FetchFault.{FetchFault}
use Rattle.edge_io.specs.declared.shelf.FetchFault.TheVariants.{Failed}
use Rattle.edge_io.specs.ReadCalls.{IsUnreadable}
use Rattle.edge_io.proofs.CallLemmas.{passed_on}
use Rattle.edge_io.proofs.file_shelf.read_whole.Goals as goal

pub returns-in_err-bytes-clause-unreadable : goal.returns-in_err-bytes-clause-unreadable
returns-in_err-bytes-clause-unreadable g c =
    let unread : FetchFault → Type 0 = λ fault. fault ≡ Failed → IsUnreadable g.S.Source.may_read c.args.source.now in
    passed_on (λ r. IfErr r unread) c.in_err-bytes.field-0.0 _ c.from_residual.ensures.1 c.in_err-bytes.ensures.unreadable
