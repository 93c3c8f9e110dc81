-- How a server keeps a file.
use Rattle.std.specs.Prelude.{ℕ, List, option_map, string_bytes, unwrap_or}
use Rattle.editor_validation.specs.Fragments.{as_fragments}
use Rattle.gqlls_server.specs.Parsing.{IsParsed, ParsedFile}
use Rattle.gqlls_server.specs.declared.documents.Document.TheInside.{Inside}

-- the text that is parsed, where it is masked and where it is not
abbrev pub source_in : Inside → List ℕ
source_in document = unwrap_or (option_map string_bytes document.masked) document.content.text

abbrev pub parsed_file : Inside → ParsedFile
parsed_file document = record {
  file = record { content = document.content; host = document.host; limits = document.limits };
  source = source_in document;
  parsed = document.tree;
  shown = unwrap_or document.mended document.tree;
  fragments = as_fragments document.fragments;
}

abbrev pub IsKept : Inside → Type 0
IsKept document = IsParsed (parsed_file document)
