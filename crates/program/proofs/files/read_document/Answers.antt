use Rattle.trace.specs.Streams.{given_by}
use Rattle.program.proofs.Obeying.{document_ok}
use Rattle.program.proofs.files.read_document.Goals as goal

pub returns-clause-bytes : goal.returns-clause-bytes
returns-clause-bytes g c =
    let file = c.in_ok-file.file in
    let new = c.read_bytes-read.new.source in
    let known = (g.O.Opener.known c.args.opener.now c.args.name.now).bytes in
    let given = given_by g.O.File.Source.given g.O.File.Source.ended file new in
    document_ok (λ bytes. bytes.items) known (g.O.File.Source.input file) (g.O.File.Source.input new) given c.read_bytes-read.result c.in_ok-file.ensures.opened.2 c.in_ok-file.ensures.opened.0 c.read_bytes-read.ensures.input (g.met.O.File.Source.begins new) c.read_bytes-read.ensures.front
