use Rattle.std.proofs.Common.{rules, inr, refl, arith}
use Rattle.documents.proofs.Bytes.{document_of-text, document_of-other}
use Rattle.documents.proofs.toml_table.open_document.Goals as goal

pub returns-in_default : goal.returns-in_default
returns-in_default g c = inr (omega arith, document_of-other _ c.in_default.ensures.cases.0, refl)

pub returns-in-Ok-table_from_str : goal.returns-in-Ok-table_from_str
returns-in-Ok-table_from_str g c =
    let same = c.in-Ok.ensures.cases.0 in
    (omega arith, document_of-text _ _ c.in-Ok.ensures.cases.1 (rw same at c.in-Ok-table_from_str.ensures.ok))

pub returns-in-Err : goal.returns-in-Err
returns-in-Err g c = record { short = omega arith; text = c.in-Ok.ensures.cases.1; said = search rules }

pub returns-in-Err-2 : goal.returns-in-Err-2
returns-in-Err-2 g c = inr (omega arith, search rules, refl)
