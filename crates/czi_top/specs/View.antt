-- What the program's types stand for.
use Rattle.czi_doc.specs.QueryView.{query_of}
use Rattle.czi_top.specs.declared.words.Query.{Query as CodeQuery}
use Rattle.czi_top.specs.declared.words.Query.TheVariants.{List, Info, Map, Check, Region}
use Rattle.czi_top.specs.declared.words.Action.{Action as CodeAction}
use Rattle.czi_top.specs.declared.words.Action.TheVariants.{Query as QueryOf, Edit}
use Rattle.czi_top.specs.declared.words.Command.{Command as CodeCommand}
use Rattle.czi_top.specs.declared.words.Command.TheVariants.{Open, Create}
use Rattle.czi_top.specs.Words.{Query, list, info, map, check, region, Action, query, edit, Command, opening, create}

abbrev pub query_view : CodeQuery → Query
query_view List = list
query_view Info = info
query_view Map = map
query_view Check = check
query_view (Region q) = region (query_of q)

abbrev pub action_view : CodeAction → Action
action_view (QueryOf q) = query (query_view q)
action_view Edit = edit

abbrev pub command_view : CodeCommand → Command
command_view (Open action) = opening (action_view action)
command_view (Create guid) = create guid
