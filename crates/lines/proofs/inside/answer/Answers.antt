-- `inside::answer` meets its contract. Assumes nothing.
use Rattle.lines.proofs.Requests.{put-fits, find-fits, del-fits, put_count, find-count, del-count, put-answered, find-answered}
use Rattle.lines.proofs.Requests.{del-answered, list-answered, bad-answered}
use Rattle.lines.proofs.inside.answer.Goals as goal

pub slice_bounds-key-end : goal.slice_bounds-key-end
slice_bounds-key-end c = search put-fits

pub slice_bounds-put-end : goal.slice_bounds-put-end
slice_bounds-put-end c = search put_count

pub slice_bounds-key-end-in-Find : goal.slice_bounds-key-end-in-Find
slice_bounds-key-end-in-Find c = search find-fits

pub slice_bounds-find-end : goal.slice_bounds-find-end
slice_bounds-find-end c = search find-count

pub slice_bounds-key-end-in-Del : goal.slice_bounds-key-end-in-Del
slice_bounds-key-end-in-Del c = search del-fits

pub slice_bounds-del-end : goal.slice_bounds-del-end
slice_bounds-del-end c = search del-count

pub returns-in-Put : goal.returns-in-Put
returns-in-Put c = search put-answered

pub returns-in-Find : goal.returns-in-Find
returns-in-Find c = search find-answered

pub returns-in-Del : goal.returns-in-Del
returns-in-Del c = search del-answered

pub returns-in-List : goal.returns-in-List
returns-in-List c = search list-answered

pub returns-in-Bad : goal.returns-in-Bad
returns-in-Bad c = search bad-answered
