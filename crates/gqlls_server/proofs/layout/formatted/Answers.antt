use Rattle.gqlls_server.proofs.layout.formatted.Goals as goal

-- by how deep the document nests, its formatted text can have more bytes
pub returns-in-Err-TooLong : goal.returns-in-Err-TooLong
returns-in-Err-TooLong c = c.in-Err-TooLong.ensures.long c.in-Err-TooLong.field-0-is
