-- How the server registers for the events of files (Language Server Protocol 3.17, "Register Capability").
use Rattle.std.specs.Prelude.{ℕ, List, codes}
use Rattle.json.specs.Json.{Json, Members, array, item, member, no_items, no_members, object, string}
use Rattle.rpc_messages.specs.Messages.{IsRequestOf}

-- `FileSystemWatcher`: the files that have names of GraphQL files
abbrev pub watcher : Json
watcher = object (member (codes "globPattern") (string (codes "**/*.{graphql,graphqls,gql}")) no_members)

-- `DidChangeWatchedFilesRegistrationOptions`
abbrev pub options : Json
options = object (member (codes "watchers") (array (item watcher no_items)) no_members)

-- `Registration`
abbrev pub registration : Json
registration =
    object (member (codes "id") (string (codes "files"))
    (member (codes "method") (string (codes "workspace/didChangeWatchedFiles"))
    (member (codes "registerOptions") options no_members)))

-- `RegistrationParams`
abbrev pub params : Members
params = member (codes "registrations") (array (item registration no_items)) no_members

-- the body is the request
abbrev pub IsRegistration : List ℕ → Type 0
IsRegistration = IsRequestOf (codes "files") (codes "client/registerCapability") params
