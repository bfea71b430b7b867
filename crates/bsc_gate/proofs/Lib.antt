mod OldestSoFar
